use Rattle.expr.proofs.Places.{some_guard}
use Rattle.expr.proofs.code.GuardCode.at.Goals as goal

pub unwrap-requires : goal.unwrap-requires
unwrap-requires c = some_guard _ _ _ c.of.ensures c.requires
