use Rattle.expr.specs.Expr.{term}
use Rattle.expr.proofs.Places.{coded_standing}
use Rattle.expr.proofs.expression.TermExpression.put.Goals as goal

pub put_term-requires-clause-standing : goal.put_term-requires-clause-standing
put_term-requires-clause-standing g c = (coded_standing term _ c.args.self.now.coded).standing
