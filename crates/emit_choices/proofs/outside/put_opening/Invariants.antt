use Rattle.std.proofs.Common.{◌≡◌, replicate, fold}
use Rattle.emit_choices.proofs.outside.put_opening.Given as goal

abbrev pub invariant-loop : goal.invariant-loop
invariant-loop g l = l.s ≡ fold g.S.Sink.step l.initial.s (replicate l.counter 40)
