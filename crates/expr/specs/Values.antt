-- Values of variables in a list, and how large the value of a term can be.
use Rattle.std.specs.Prelude.{ℕ, ◌+◌, ◌*◌, ◌/◌, ◌^◌, List, ℤ, pos, neg_ℤ, ◌≤ℤ◌, ◌<ℤ◌, slice_index_or}

-- a variable that the list does not have is 0
abbrev pub value_of : List ℤ → ℕ → ℤ
value_of values v = slice_index_or values v (pos 0)

-- the largest size of a term of n bytes
abbrev pub most : ℕ → ℕ
most n = 32768 * (n + 1) / 3

pub record Within (n : ℕ) (z : ℤ) : Type 0 where
  pub low : neg_ℤ (pos (most n)) ≤ℤ z
  pub high : z ≤ℤ pos (most n)

-- below 2^22 in size
pub record Small (z : ℤ) : Type 0 where
  pub low : neg_ℤ (pos (2 ^ 22)) <ℤ z
  pub high : z <ℤ pos (2 ^ 22)
