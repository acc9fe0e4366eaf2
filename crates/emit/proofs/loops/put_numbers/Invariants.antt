use Rattle.std.proofs.Common.{◌≡◌, fold}
use Rattle.view.specs.Shown.{system_of}
use Rattle.model_text.specs.Lists.{up_to}
use Rattle.emit.proofs.loops.put_numbers.Given as goal

abbrev pub invariant-loop-n : goal.invariant-loop-n
invariant-loop-n g l = l.s ≡ fold g.S.Sink.step l.initial.s (up_to l.n (g.P.NumberText.text l.piece (system_of l.view)))
