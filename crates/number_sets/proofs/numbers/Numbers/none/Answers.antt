use Rattle.std.proofs.Common.{◌≡◌, ℕ, false, ◌&&◌, ltb, get_or, replicate, arith}
use Rattle.std.proofs.lemmas.Bool.Decides.{nat_tests}
use Rattle.std.proofs.lemmas.List.{get_or-replicate}
use Rattle.number_sets.proofs.numbers.Numbers.none.Goals as goal

blank : (n k : ℕ) → (ltb k n && get_or (replicate n false) k false) ≡ false
blank n k = grind (arith, nat_tests, get_or-replicate n k false false)

pub returns : goal.returns
returns c k = blank 64 k
