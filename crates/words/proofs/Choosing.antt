-- No word where none of its forms stands.
use Rattle.std.proofs.Common.{◌≡◌, ◌≢◌, ℕ, true, false, List, ◌++◌, codes, sym, subst, arith}
use Rattle.model_text.specs.declared.words.Word.{Word}
use Rattle.model_text.specs.declared.words.Word.TheVariants as W
use Rattle.model_text.specs.Words.{spelled, GoodWord, Stops}
use Rattle.words.specs.Forms.{numbers, names, words}
use Rattle.words.specs.Readings.{Found, Nothing}
use Rattle.words.proofs.Signs.{same_number}
use Rattle.words.proofs.Stopping.{no_digit}

module _ (s : List ℕ) where
  module _ (n : Nothing names s) (a : (r : List ℕ) → Stops r → s ≢ codes "TRUE" ++ r) (b : (r : List ℕ) → Stops r → s ≢ codes "FALSE" ++ r) where
    pub word_runs : (v : ℕ) (rest : List ℕ) → Found (numbers 32768) s v rest → (Stops rest → ⊥) → Nothing words s
    word_runs v rest f on = record { none = go }
      where
        go : (w : Word) (r : List ℕ) → GoodWord w → Stops r → s ≡ spelled w ++ r → ⊥
        go (W.Truth true) r g u p = a r u p
        go (W.Truth false) r g u p = b r u p
        go (W.Number k) r g u p = on (subst Stops (sym (same_number 32768 s v rest (omega arith) f k r (omega arith) (no_digit r u) p).1) u)
        go (W.Name x) r g u p = n.none x r g u p
