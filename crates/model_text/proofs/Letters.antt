-- A thing found by its letter.
use Rattle.std.proofs.Common.{◌≡◌, ◌≢◌, ℕ, ◌<◌, List, length, Option, Some, None, MatchOption, refl, ap, ◌∙◌, arith}
use Rattle.std.specs.List.{AllWithin, HoldsAt, Contains}
use Rattle.model_text.specs.declared.words.Single.{Single}
use Rattle.model_text.specs.declared.words.Single.TheVariants as S
use Rattle.model_text.specs.declared.words.TheConstants.Single.{ALL as singles}
use Rattle.model_text.specs.declared.words.Double.{Double}
use Rattle.model_text.specs.declared.words.Double.TheVariants as D
use Rattle.model_text.specs.declared.words.TheConstants.Double.{ALL as doubles}
use Rattle.model_text.specs.Letters.{LetterOf}

pub all_singles : (x : Single) → Contains singles x
all_singles S.Choice = (0, omega arith, refl)
all_singles S.Location = (1, omega arith, refl)
all_singles S.Variable = (2, omega arith, refl)
all_singles S.SettledValue = (3, omega arith, refl)
all_singles S.Permission = (4, omega arith, refl)
all_singles S.PlantsOpen = (5, omega arith, refl)
all_singles S.LocationMarked = (6, omega arith, refl)

pub all_doubles : (x : Double) → Contains doubles x
all_doubles D.Transition = (0, omega arith, refl)
all_doubles D.WishStatus = (1, omega arith, refl)
all_doubles D.WishValue = (2, omega arith, refl)
all_doubles D.JoinedStatus = (3, omega arith, refl)
all_doubles D.JoinedValue = (4, omega arith, refl)
all_doubles D.Open = (5, omega arith, refl)

module _ {A : Type 0} (letter : A → ℕ) (b : ℕ) (all : List A) (whole : (x : A) → Contains all x) where
  abbrev FirstBy : A → Type 0
  FirstBy x = (letter x ≡ b) × (i : ℕ) × (i < length all) × HoldsAt (λ y. y ≡ x) all i × AllWithin (λ y. letter y ≢ b) all 0 i

  pub by_letter : (r : Option A) → MatchOption r (AllWithin (λ y. letter y ≢ b) all 0 (length all)) FirstBy → LetterOf letter b r
  by_letter None h = λ x e. let w = whole x in h w.0 x (omega arith) w.1 (ap letter w.2 ∙ e)
  by_letter (Some x) h = h.0
