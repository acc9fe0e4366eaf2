use Rattle.std.proofs.Common.{◌+◌, ◌-◌, List, length}
use Rattle.std.specs.List.{flat_map}
use Rattle.system.specs.System.{Update}
use Rattle.system.specs.Encode.{update_bytes}
use Rattle.view.specs.Walk.{UpdateFine, UpdatesAt}
use Rattle.view.proofs.Many.{ManyTo}
use Rattle.view.proofs.updates.Updates.end.Given as goal

-- those that are left end where all do
abbrev pub invariant-loop : goal.invariant-loop
invariant-loop l =
    (us : List Update) → UpdatesAt l.self.file.now l.self.at l.self.left us
    → ManyTo update_bytes UpdateFine l.self.file.now l.at (l.self.left - l.counter) (l.self.at + length (flat_map update_bytes us))
