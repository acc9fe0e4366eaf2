use Rattle.std.proofs.Common.{◌≤◌, length}
use Rattle.system.proofs.Updates.{UpdatesGoing}
use Rattle.system.proofs.transitions.Row.check_updates.Given as goal

abbrev pub invariant-loop : goal.invariant-loop
invariant-loop l =
    UpdatesGoing l.self.source.origin l.self.variables l.self.source.file.now l.at l.floor l.updates l.counter l.end × (l.end ≤ length l.self.source.file.now)
