-- The ten digits, and the run of them at the head of a text.
use Rattle.std.specs.Prelude.{◌≡◌, ℕ, ◌≤◌, List, [], ◌∷◌, ◌++◌, All}

pub record Digit (b : ℕ) : Type 0 where
  pub low : 48 ≤ b
  pub high : b ≤ 57

-- what cannot carry a number on
abbrev pub NoDigit : List ℕ → Type 0
NoDigit [] = Unit {0}
NoDigit (b ∷ rest) = Digit b → ⊥

-- the longest run of digits at the head of s, and what follows it
pub record Run (s digits rest : List ℕ) : Type 0 where
  pub splits : s ≡ digits ++ rest
  pub all : All Digit digits
  pub ends : NoDigit rest
