use Rattle.expr.specs.Expr.{guard}
use Rattle.expr.proofs.Places.{coded_standing}
use Rattle.expr.proofs.checked.Guard.value.Goals as goal

pub guard_value-requires-clause-standing : goal.guard_value-requires-clause-standing
guard_value-requires-clause-standing c = (coded_standing guard _ c.args.self.now.coded).standing
