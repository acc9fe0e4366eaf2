use Rattle.std.proofs.Common.{rules}
use Rattle.system.proofs.variables.in_order.Goals as goal
use Rattle.system.proofs.variables.in_order.Goals.{then-ordered, else-ordered}

pub returns-then-between : goal.returns-then-between
returns-then-between c = elim c.if-ordered.branch [ then-ordered w ↦ search rules | else-ordered w ↦ search rules ]

pub returns-else-between : goal.returns-else-between
returns-else-between c = elim c.if-ordered.branch [ then-ordered w ↦ search rules | else-ordered w ↦ search rules ]
