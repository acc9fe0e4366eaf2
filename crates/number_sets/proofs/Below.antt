-- A set that holds what a test says of the numbers below 64 holds no other.
use Rattle.std.proofs.Common.{◌≡◌, ℕ, ◌<◌, ◌&&◌, Bool, ltb, arith}
use Rattle.std.proofs.lemmas.Bool.Decides.{nat_tests}
use Rattle.number_sets.specs.Sets.{holds}
use Rattle.number_sets.specs.declared.numbers.Numbers.{Numbers}

pub below : (s : Numbers) (k : ℕ) (t : Bool) → (k < 64 → holds s k ≡ t) → holds s k ≡ (ltb k 64 && t)
below s k t h = grind (arith, nat_tests)
