use Rattle.std.proofs.Common.{◌-◌}
use Rattle.emit.proofs.OwnRows.{Seen}
use Rattle.emit.proofs.rows.split_own.Given as goal

abbrev pub invariant-loop-row : goal.invariant-loop-row
invariant-loop-row l = Seen l.rows l.rest l.k (l.rows.left - l.rest.left)

abbrev pub decreases-loop-row : goal.decreases-loop-row
decreases-loop-row l = l.rest.left
