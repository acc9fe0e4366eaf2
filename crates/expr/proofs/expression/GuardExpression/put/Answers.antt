use Rattle.expr.specs.Expr.{guard}
use Rattle.expr.proofs.Places.{coded_standing}
use Rattle.expr.proofs.expression.GuardExpression.put.Goals as goal

pub put_guard-requires-clause-standing : goal.put_guard-requires-clause-standing
put_guard-requires-clause-standing g c = (coded_standing guard _ c.args.self.now.coded).standing
