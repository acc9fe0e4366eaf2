use Rattle.std.proofs.Common.{◌≡◌, List}
use Rattle.system.specs.System.{Update}
use Rattle.view.specs.Shown.{UpdatesOf}
use Rattle.translation.specs.Systems.{sought}
use Rattle.emit_wishes.proofs.entries.update_of.Given as goal

-- what is sought among all is sought among those that are left
abbrev pub invariant-loop-update : goal.invariant-loop-update
invariant-loop-update l =
    (goal.iterator-loop-update).can_next l.update-iterator
    × (goal.iterator-loop-update).is_finite l.update-iterator
    × ((us : List Update) → UpdatesOf l.updates us → (left : List Update) × UpdatesOf l.update-iterator left × (sought l.i left ≡ sought l.i us))
