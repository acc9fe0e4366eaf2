-- The texts of signed values that a sink has taken, and of numbers.
use Rattle.std.proofs.Common.{◌≡◌, ℕ, List, ℤ, pos, negsuc, fold, refl, ap, ◌∙◌, w16, SFits, to_z, of_z}
use Rattle.std.proofs.lemmas.Int.{to_z-of_z}
use Rattle.sinks.specs.Text.{value_text}
use Rattle.model_text.specs.Trees.{print}
use Rattle.translation.specs.Written.{number}

-- a signed argument of a call shows as its bits and back
pub value-told : {S : Type 0} (F : ℤ → List ℕ) (f : S → ℕ → S) (s t : S) (z v : ℤ) → SFits w16 z → z ≡ v → t ≡ fold f s (F (to_z w16 (of_z w16 z))) → t ≡ fold f s (F v)
value-told F f s t z v h is e = e ∙ ap (λ y. fold f s (F y)) (to_z-of_z w16 z h ∙ is)

-- a literal is printed as a value
value-number : (v : ℤ) → value_text v ≡ print (number v)
value-number (pos n) = refl
value-number (negsuc n) = refl

pub number-told : {S : Type 0} (f : S → ℕ → S) (s t : S) (z v : ℤ) → SFits w16 z → z ≡ v → t ≡ fold f s (value_text (to_z w16 (of_z w16 z))) → t ≡ fold f s (print (number v))
number-told f s t z v h is e = value-told value_text f s t z v h is e ∙ ap (fold f s) (value-number v)
