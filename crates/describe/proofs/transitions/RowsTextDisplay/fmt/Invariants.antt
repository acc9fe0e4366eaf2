use Rattle.std.proofs.Common.{◌+◌, ◌≤◌}
use Rattle.describe.proofs.transitions.RowsTextDisplay.fmt.Given as goal

abbrev pub invariant-loop-transition : goal.invariant-loop-transition
invariant-loop-transition g l =
    let left = (goal.iterator-loop-transition g).remaining in
    (goal.iterator-loop-transition g).can_next l.transition-iterator
    × (goal.iterator-loop-transition g).is_finite l.transition-iterator
    × (l.choice + left l.transition-iterator ≤ left l.initial.transition-iterator)
