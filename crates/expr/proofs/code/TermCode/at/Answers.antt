use Rattle.expr.proofs.Places.{some_term}
use Rattle.expr.proofs.code.TermCode.at.Goals as goal

pub unwrap-requires : goal.unwrap-requires
unwrap-requires c = some_term _ _ _ c.of.ensures c.requires
