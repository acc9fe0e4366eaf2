-- A fold by an operation with a neutral element that is commutative and associative is the same in every order and bracketing.
use Rattle.std.proofs.Common.{◌≡◌, List, fold, sym, refl, ap, ◌∙◌}
use Rattle.std.proofs.lemmas.List.Sums.{fold-append}
use Rattle.clash.specs.Orders.{Permutation, same, keep, swap, then, Bracketing, empty, element, bracket, elements, comes_to, Total}

module _ {M : Type 0} (e : M) (op : M → M → M) (neutral : (x : M) → op e x ≡ x) (comm : (x y : M) → op x y ≡ op y x) (assoc : (x y z : M) → op (op x y) z ≡ op x (op y z)) where
  fold_permutation : (a : M) {xs ys : List M} → Permutation xs ys → fold op a xs ≡ fold op a ys
  fold_permutation a same = refl
  fold_permutation a (keep {x = x} p) = fold_permutation (op a x) p
  fold_permutation a (swap {x = x} {y = y} {xs = xs}) = ap (λ z. fold op z xs) (assoc a x y ∙ ap (op a) (comm x y) ∙ sym (assoc a y x))
  fold_permutation a (then p q) = fold_permutation a p ∙ fold_permutation a q

  fold_bracketing : (a : M) (t : Bracketing M) → fold op a (elements t) ≡ op a (comes_to e op t)
  fold_bracketing a empty = sym (comm a e ∙ neutral a)
  fold_bracketing a (element x) = refl
  fold_bracketing a (bracket s t) =
      fold-append op a (elements s) (elements t) ∙ ap (λ z. fold op z (elements t)) (fold_bracketing a s)
      ∙ fold_bracketing (op a (comes_to e op s)) t ∙ assoc a (comes_to e op s) (comes_to e op t)

  pub total : (xs : List M) (r : M) → r ≡ fold op e xs → Total e op xs r
  total xs r h = record { whole = h; any_order = λ t p. h ∙ fold_permutation e p ∙ fold_bracketing e t ∙ neutral (comes_to e op t) }
