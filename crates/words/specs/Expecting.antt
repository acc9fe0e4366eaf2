-- A given text at the head of s.
use Rattle.std.specs.Prelude.{◌≡◌, List, ◌++◌, ℕ, Option, MatchOption, ◌≢◌}
use Rattle.std.specs.Borrow.{Bor}

-- what follows it, or that it does not stand there
abbrev pub Expects : List ℕ → List ℕ → Option (Bor (List ℕ)) → Type 0
Expects t s r = MatchOption r ((rest : List ℕ) → s ≢ t ++ rest) (λ rest. s ≡ t ++ rest.now)
