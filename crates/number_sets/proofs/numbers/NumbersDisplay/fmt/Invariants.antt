use Rattle.std.proofs.Common.{◌≡◌}
use Rattle.std.specs.Fmt.{HasWritten, IsPlainFormatter}
use Rattle.number_sets.specs.Text.{none_below, told_below}
use Rattle.number_sets.proofs.numbers.NumbersDisplay.fmt.Given as goal

abbrev pub invariant-loop-n : goal.invariant-loop-n
invariant-loop-n g l = record {
  empty : l.empty ≡ none_below l.self l.n-counter;
  written : IsPlainFormatter l.initial.f → HasWritten g.W.Write.write_str_gives l.initial.f (told_below l.self l.n-counter) l.f;
}
