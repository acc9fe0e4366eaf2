-- A thing from its letter, or that none has this letter.
use Rattle.std.specs.Prelude.{◌≡◌, ℕ, Option, Some, None, ◌≢◌}

abbrev pub LetterOf : {A : Type 0} → (A → ℕ) → ℕ → Option A → Type 0
LetterOf {A} letter b None = (x : A) → letter x ≢ b
LetterOf letter b (Some x) = letter x ≡ b
