-- The text of a set: its ranges from the lowest on, as `0..3, 5`, or `none`.
use Rattle.std.specs.Prelude.{ℕ, zero, suc, Bool, true, not, cond, ◌&&◌, List, [], ◌++◌, codes, decimal}
use Rattle.number_sets.specs.declared.numbers.Numbers.{Numbers}
use Rattle.number_sets.specs.Sets.{first, last}

-- no range begins below n
unfoldable pub none_below : Numbers → ℕ → Bool
none_below s zero = true
none_below s (suc n) = none_below s n && not (first s n)

-- where a range begins, its first number, behind a comma unless it is the first range; where a longer one ends, its last
abbrev pub told : Numbers → ℕ → List ℕ
told s n = cond (first s n) (cond (none_below s n) [] (codes ", ") ++ decimal n) (cond (last s n) (codes ".." ++ decimal n) [])

-- what is told of the numbers below n
unfoldable pub told_below : Numbers → ℕ → List ℕ
told_below s zero = []
told_below s (suc n) = told_below s n ++ told s n

abbrev pub text : Numbers → List ℕ
text s = cond (none_below s 64) (codes "none") (told_below s 64)
