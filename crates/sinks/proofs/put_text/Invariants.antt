use Rattle.std.proofs.Common.{◌≡◌, take, fold}
use Rattle.sinks.proofs.put_text.Given as goal

abbrev pub invariant-loop-b : goal.invariant-loop-b
invariant-loop-b g l = l.s ≡ fold g.S.Sink.step l.initial.s (take l.b-index l.t)
