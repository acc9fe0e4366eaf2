-- Files that begin alike.
use Rattle.std.specs.Prelude.{◌≡◌, ℕ, ◌≤◌, List, length, take}

-- both have n bytes, and the first n are the same
pub record SameFront (n : ℕ) (s t : List ℕ) : Type 0 where
  pub here : n ≤ length s
  pub there : n ≤ length t
  pub same : take n s ≡ take n t
