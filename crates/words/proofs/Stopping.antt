-- Where a word stops.
use Rattle.std.proofs.Common.{◌≡◌, ℕ, Bool, true, false, List, [], ◌∷◌, Option, Some, None, MatchOption, Bor, Decides, refl, sym, ◌∙◌, subst, inl, inr, arith}
use Rattle.std.proofs.lemmas.List.{append_cancel_left}
use Rattle.model_text.specs.Words.{Stops}
use Rattle.std.specs.Bool.{then_some}
use Rattle.words.specs.Digits.{NoDigit}
use Rattle.words.specs.Expecting.{Expects}
use Rattle.words.specs.Forms.{Form}
use Rattle.words.specs.Readings.{Found, Nothing, Reads}
use Rattle.words.specs.Wholes.{ExpectsWhole}

-- what stops a word stops a number
pub no_digit : (rest : List ℕ) → Stops rest → NoDigit rest
no_digit [] h = tt
no_digit (b ∷ rest) h = λ d. elim h.stop [
  | inl a ↦ omega (arith, d.low)
  | inr o ↦ elim o [ inl a ↦ omega (arith, d.low) | inr a ↦ omega (arith, d.high) ]
]

-- a text is a whole word where it stands and what follows it stops
pub only_whole : (t s : List ℕ) (o : Option (Bor (List ℕ))) (R : Bor (List ℕ) → Bool → Type 0) (r : Option (Bor (List ℕ))) → Expects t s o → MatchOption o (r ≡ None) (λ x. (b : Bool) × R x b × (r ≡ then_some b x)) → ((x : Bor (List ℕ)) (b : Bool) → R x b → Decides b (Stops x.now)) → ExpectsWhole t s r
only_whole t s None R r e f d = rw f (λ rest u i. e rest i)
only_whole t s (Some x) R r e f d = elim f.0 as (λ b. R x b → r ≡ then_some b x → ExpectsWhole t s r) [
  | true ↦ λ k i. rw i (e, (d x true k).0 refl)
  | false ↦ λ k i. rw i (λ rest u j. let z : false ≡ true = (d x false k).1 (subst Stops (sym (append_cancel_left t _ _ (sym e ∙ j))) u) in cc)
] f.1 f.2

-- an answer that is kept where P holds
pub kept : {A : Type 0} (f : Form A) (s : List ℕ) (b : Bool) (P : Type 0) (p : A × Bor (List ℕ)) (r : Option (A × Bor (List ℕ))) → r ≡ then_some b p → Decides b P → (P → Found f s p.0 p.1.now) → ((P → ⊥) → Nothing f s) → Reads f s r
kept f s true P p r e d found none = rw e (found (d.0 refl))
kept f s false P p r e d found none = rw e (none (λ h. let z : false ≡ true = d.1 h in cc))
