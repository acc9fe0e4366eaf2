-- A variable's values as the code holds them.
use Rattle.std.specs.Prelude.{◌≡◌, ℕ, ◌+◌, ◌*◌, List, length, ℤ}
use Rattle.system.specs.declared.range.Range.{Range}
use Rattle.system.specs.System.{Variable}

abbrev pub variable_of : Range → Variable
variable_of r = record { low = r.low; high = r.high; start = r.start; marked_low = r.marked_low; marked_high = r.marked_high }

-- a value takes two bytes
abbrev pub ValueAt : ℕ → ℤ → ℤ → ℕ → Type 0
ValueAt at v a end = (a ≡ v) × (end ≡ at + 2)

-- a count, and ten bytes for each variable
abbrev pub VariablesAt : ℕ → ℕ → List Variable → ℕ → Type 0
VariablesAt at n vs end = (length vs ≡ n) × (end ≡ at + 1 + 10 * n)
