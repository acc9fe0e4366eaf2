-- Which numbers a set holds, and where its ranges begin and end.
use Rattle.std.specs.Prelude.{◌≡◌, ℕ, ◌+◌, ◌-◌, Bool, false, not, ◌&&◌, ◌||◌, List, ◌==◌, nat_lt, slice_index_or}
use Rattle.std.specs.List.{list_any}
use Rattle.number_sets.specs.declared.numbers.Numbers.{Numbers}

abbrev pub holds : Numbers → ℕ → Bool
holds s n = nat_lt n 64 && slice_index_or s.has n false

-- the number before is not in the set
abbrev pub first : Numbers → ℕ → Bool
first s n = holds s n && (n == 0 || not (holds s (n - 1)))

-- the number behind is not in the set
abbrev pub last : Numbers → ℕ → Bool
last s n = holds s n && not (holds s (n + 1))

-- the set of those numbers below 64 that pass a test
abbrev pub Collects : Numbers → (ℕ → Bool) → Type 0
Collects s test = (k : ℕ) → holds s k ≡ (nat_lt k 64 && test k)

-- a number that stands in a list
abbrev pub among : List ℕ → ℕ → Bool
among xs k = list_any (λ x. k == x) xs
