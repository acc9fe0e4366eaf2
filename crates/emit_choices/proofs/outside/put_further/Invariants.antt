use Rattle.std.proofs.Common.{◌≡◌, take, fold}
use Rattle.std.specs.List.{flat_map}
use Rattle.emit_choices.specs.Further.{further}
use Rattle.emit_choices.proofs.outside.put_further.Given as goal

abbrev pub invariant-loop-e : goal.invariant-loop-e
invariant-loop-e g l = l.s ≡ fold g.S.Sink.step l.initial.s (flat_map further (take l.e-index l.events))
