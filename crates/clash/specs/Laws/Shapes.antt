-- A wish is known by its status and its value, so it is one of the three.
use Rattle.std.specs.Prelude.{◌≡◌, false, ℤ, pos, refl}
use Rattle.std.proofs.Common.{sym, subst}
use mathlib.Core.HLevel.{is_prop→PathP, →_prop}
use Rattle.std.proofs.Math.IntN.{ℤ_set}
use Rattle.clash.specs.Carries.{carries}
use Rattle.clash.specs.Wishes.{Wish, Status, none, single, clash}
use Rattle.clash.specs.declared.wish.Status.TheVariants.{Nothing, Single, Clash}

-- the ghost field is a proposition, so it adds nothing
pub wish_same : (a b : Wish) → a.status ≡ b.status → a.value ≡ b.value → a ≡ b
wish_same a b p q = λ i. record {
  status = p i;
  value = q i;
  canonical = is_prop→PathP (λ j. carries (p j) ≡ false → q j ≡ pos 0) (λ j. →_prop (ℤ_set (q j) (pos 0))) a.canonical b.canonical i;
}

pub data Shape : Wish → Type 0 where
  is_none : Shape none
  is_single : (v : ℤ) → Shape (single v)
  is_clash_shape : Shape clash

shaped : (s : Status) (v : ℤ) (h : carries s ≡ false → v ≡ pos 0) → Shape (record { status = s; value = v; canonical = h })
shaped Nothing v h = subst Shape (wish_same none _ refl (sym (h refl))) is_none
shaped Single v h = subst Shape (wish_same (single v) _ refl refl) (is_single v)
shaped Clash v h = subst Shape (wish_same clash _ refl (sym (h refl))) is_clash_shape

pub shape : (w : Wish) → Shape w
shape w = shaped w.status w.value w.canonical
