-- The rules by which equal values join keep the laws.
use Rattle.std.specs.Prelude.{◌≡◌, ℕ, ◌≤◌, Bool, true, false, cond, ◌⊎◌, ℤ, pos, refl}
use Rattle.std.proofs.Common.{inl, inr, sym, ◌∙◌, arith}
use Rattle.std.proofs.Math.Bool.{or-true, or-false}
use Rattle.std.proofs.lemmas.Int.{ints}
use Rattle.expr.specs.Expr.{guard, Expr, eval, tested}
use Rattle.expr.specs.declared.code.Order.TheVariants.{Eq}
use Rattle.clash.specs.EqualValues.{joins_equal, settles_own, equal_status, equal_value, own_value, equal_values, permitted, Permission}
use Rattle.clash.specs.Rules.{Lawful, Plain, of_pair, of_wish}
use Rattle.clash.specs.Wishes.{Wish, none, single, clash, status_number}
use Rattle.clash.specs.Laws.Plain.{plain}
use Rattle.clash.specs.Laws.Shapes.{Shape, shape, is_none, is_single, is_clash_shape}

comm : {x y : Wish} → Shape x → Shape y → joins_equal x y ≡ joins_equal y x
comm is_none is_none = refl
comm is_none (is_single w) = refl
comm is_none is_clash_shape = refl
comm (is_single v) is_none = refl
comm (is_single v) (is_single w) = grind (arith, ints)
comm (is_single v) is_clash_shape = refl
comm is_clash_shape is_none = refl
comm is_clash_shape (is_single w) = refl
comm is_clash_shape is_clash_shape = refl

assoc_three : (u v w : ℤ) → joins_equal (joins_equal (single u) (single v)) (single w) ≡ joins_equal (single u) (joins_equal (single v) (single w))
assoc_three u v w = grind (arith, ints)

assoc : {x y z : Wish} → Shape x → Shape y → Shape z → joins_equal (joins_equal x y) z ≡ joins_equal x (joins_equal y z)
assoc is_none y z = refl
assoc (is_single u) is_none z = refl
assoc (is_single u) (is_single v) is_none = elim (tested Eq u v) as (λ c. joins_equal (cond c (single u) clash) none ≡ cond c (single u) clash) [ true ↦ refl | false ↦ refl ]
assoc (is_single u) (is_single v) (is_single w) = assoc_three u v w
assoc (is_single u) (is_single v) is_clash_shape = elim (tested Eq u v) as (λ c. joins_equal (cond c (single u) clash) clash ≡ clash) [ true ↦ refl | false ↦ refl ]
assoc (is_single u) is_clash_shape z = refl
assoc is_clash_shape y z = refl

from : {x y : Wish} → Shape x → Shape y → ((joins_equal x y).value ≡ pos 0) ⊎ (((joins_equal x y).value ≡ x.value) ⊎ ((joins_equal x y).value ≡ y.value))
from is_none y = inr (inr refl)
from (is_single v) is_none = inr (inl refl)
from (is_single v) (is_single w) = elim (tested Eq v w) as (λ c. ((cond c (single v) clash).value ≡ pos 0) ⊎ (((cond c (single v) clash).value ≡ v) ⊎ ((cond c (single v) clash).value ≡ w))) [ true ↦ inr (inl refl) | false ↦ inl refl ]
from (is_single v) is_clash_shape = inl refl
from is_clash_shape y = inl refl

-- both expressions of a join
says : {x y : Wish} → Shape x → Shape y → (eval (of_pair x y) equal_status ≡ status_number (joins_equal x y).status) × (eval (of_pair x y) equal_value ≡ (joins_equal x y).value)
says is_none is_none = (refl, refl)
says is_none (is_single w) = (refl, refl)
says is_none is_clash_shape = (refl, refl)
says (is_single v) is_none = (refl, refl)
says (is_single v) (is_single w) = elim (tested Eq v w) as (λ c. (cond c (pos 1) (pos 2) ≡ status_number (cond c (single v) clash).status) × (cond c v (pos 0) ≡ (cond c (single v) clash).value)) [ true ↦ (refl, refl) | false ↦ (refl, refl) ]
says (is_single v) is_clash_shape = (refl, refl)
says is_clash_shape is_none = (refl, refl)
says is_clash_shape (is_single w) = (refl, refl)
says is_clash_shape is_clash_shape = (refl, refl)

says_own : {w : Wish} → Shape w → (old : ℤ) → eval (of_wish w old) own_value ≡ settles_own w old
says_own is_none old = refl
says_own (is_single v) old = refl
says_own is_clash_shape old = refl

-- what a rule adds that permits whatever wishes it likes, but for nones and single ones: its number, and when a wish is permitted
pub record WishesPermitted (n : ℕ) (permits : Wish → ℤ → Bool) (e : Expr guard) : Type 0 where
  pub number_low : 1 ≤ n
  pub number_high : n ≤ 999
  pub for_none : (old : ℤ) → permits none old ≡ true
  pub for_single : (v old : ℤ) → permits (single v) old ≡ true
  pub plain : Plain 3 e
  pub says : {w : Wish} → Shape w → (old : ℤ) → eval (of_wish w old) e ≡ permits w old

pub lawful : {n : ℕ} {permits : Wish → ℤ → Bool} {e : Expr guard} → WishesPermitted n permits e → Lawful (equal_values n permits e)
lawful p = record {
  number_low = p.number_low;
  number_high = p.number_high;
  none_joins = λ x. refl;
  commutes = λ x y. comm (shape x) (shape y);
  associates = λ x y z. assoc (shape x) (shape y) (shape z);
  from_parts = λ x y. from (shape x) (shape y);
  none_settles = λ old. refl;
  single_settles = λ v old. refl;
  clash_settles = λ old. refl;
  none_permitted = p.for_none;
  single_permitted = p.for_single;
  status_plain = plain 4 equal_status refl;
  value_plain = plain 4 equal_value refl;
  settled_plain = plain 3 own_value refl;
  permission_plain = p.plain;
  says_status = λ x y. (says (shape x) (shape y)).0;
  says_value = λ x y. (says (shape x) (shape y)).1;
  says_settled = λ w old. says_own (shape w) old;
  says_permission = λ w old. p.says (shape w) old;
}

says_permitted : {n : ℕ} {permits : ℤ → Bool} {e : Expr guard} → Permission n permits e → {w : Wish} → Shape w → (old : ℤ) → eval (of_wish w old) e ≡ permitted permits w old
says_permitted {permits = permits} p is_none old = p.says_none old ∙ sym (or-true (permits old))
says_permitted {permits = permits} p (is_single v) old = p.says_single v old ∙ sym (or-true (permits old))
says_permitted {permits = permits} p is_clash_shape old = p.says_clash old ∙ sym (or-false (permits old))

pub lawful_equal_values : {n : ℕ} {permits : ℤ → Bool} {e : Expr guard} → Permission n permits e → Lawful (equal_values n (permitted permits) e)
lawful_equal_values p = lawful (record {
  number_low = p.number_low;
  number_high = p.number_high;
  for_none = λ old. or-true _;
  for_single = λ v old. or-true _;
  plain = p.plain;
  says = λ s old. says_permitted p s old;
})
