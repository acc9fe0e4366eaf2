use Rattle.std.proofs.Common.{◌≡◌, Bool, List, map, drop, fold}
use Rattle.sinks.specs.Text.{each}
use Rattle.system.specs.Encode.{mark_byte}
use Rattle.emit_marks.specs.Locations.{location_entry}
use Rattle.emit_marks.proofs.marks.put_locations.Given as goal

abbrev pub invariant-loop-j : goal.invariant-loop-j
invariant-loop-j g l =
    (ms : List Bool) → l.marks ≡ map mark_byte ms → fold g.S.Sink.step l.s (each (location_entry l.k) l.j (drop l.j ms)) ≡ fold g.S.Sink.step l.initial.s (each (location_entry l.k) 0 ms)
