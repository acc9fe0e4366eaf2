-- What a reader answers at the head of s: a good thing of a form that stands there, with what follows it, or that none does.
use Rattle.std.specs.Prelude.{◌≡◌, ℕ, ◌<◌, List, ◌++◌, length, Option, MatchOption, ◌≢◌}
use Rattle.std.specs.Borrow.{Bor}
use Rattle.words.specs.Forms.{Form}

pub record Found {A : Type 0} (f : Form A) (s : List ℕ) (a : A) (rest : List ℕ) : Type 0 where
  pub good : f.good a
  pub text : s ≡ f.text a ++ rest
  pub ends : f.follow rest
  pub shorter : length rest < length s

pub record Nothing {A : Type 0} (f : Form A) (s : List ℕ) : Type 0 where
  pub none : (a : A) (rest : List ℕ) → f.good a → f.follow rest → s ≢ f.text a ++ rest

abbrev pub Reads : {A : Type 0} → Form A → List ℕ → Option (A × Bor (List ℕ)) → Type 0
Reads f s r = MatchOption r (Nothing f s) (λ p. Found f s p.0 p.1.now)
