use Rattle.std.proofs.Common.{◌+◌, ◌≤◌, length}
use Rattle.system.proofs.Sections.{EventsGoing}
use Rattle.system.proofs.events.check_events.Given as goal

abbrev pub invariant-loop-k : goal.invariant-loop-k
invariant-loop-k l = EventsGoing l.file l.events l.k × (l.k + 1 ≤ length l.file) × (l.events ≤ 64)
