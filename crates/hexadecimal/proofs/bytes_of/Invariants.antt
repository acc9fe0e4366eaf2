use Rattle.std.proofs.Common.{vec_items}
use Rattle.hexadecimal.proofs.Turns.{Read}
use Rattle.hexadecimal.proofs.bytes_of.Given as goal

abbrev pub invariant-loop-high : goal.invariant-loop-high
invariant-loop-high l = Read l.text l.pairs l.high-index (vec_items l.bytes)
