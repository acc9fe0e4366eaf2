use Rattle.expr.specs.Expr.{term}
use Rattle.expr.proofs.Places.{coded_standing}
use Rattle.expr.proofs.Evals.{term_whole}
use Rattle.expr.proofs.checked.Term.value.Goals as goal

pub term_value-requires-clause-standing : goal.term_value-requires-clause-standing
term_value-requires-clause-standing c = (coded_standing term _ c.args.self.now.coded).standing

pub returns-clause-bound : goal.returns-clause-bound
returns-clause-bound c =
    (term_whole _ _ (coded_standing term _ c.args.self.now.coded).long _ _ c.term_value.ensures.spans c.term_value.ensures.bound).bound
