-- A given text as a whole word at the head of s.
use Rattle.std.specs.Prelude.{◌≡◌, ℕ, List, ◌++◌, Option, MatchOption, ◌≢◌}
use Rattle.std.specs.Borrow.{Bor}
use Rattle.model_text.specs.Words.{Stops}

abbrev pub ExpectsWhole : List ℕ → List ℕ → Option (Bor (List ℕ)) → Type 0
ExpectsWhole t s r = MatchOption r ((rest : List ℕ) → Stops rest → s ≢ t ++ rest) (λ rest. (s ≡ t ++ rest.now) × Stops rest.now)
