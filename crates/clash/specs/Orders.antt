-- Lists in another order, bracketings of a list, and what they come to.
use Rattle.std.specs.Prelude.{◌≡◌, List, [], ◌∷◌, ◌++◌, fold}

-- the same elements, in any order
pub data Permutation {M : Type 0} : List M → List M → Type 0 where
  same : {xs : List M} → Permutation xs xs
  keep : {x : M} {xs ys : List M} → Permutation xs ys → Permutation (x ∷ xs) (x ∷ ys)
  swap : {x y : M} {xs : List M} → Permutation (x ∷ (y ∷ xs)) (y ∷ (x ∷ xs))
  then : {xs ys zs : List M} → Permutation xs ys → Permutation ys zs → Permutation xs zs

-- a list with brackets: empty, one element, or two parts
pub data Bracketing (M : Type 0) : Type 0 where
  empty : Bracketing M
  element : M → Bracketing M
  bracket : Bracketing M → Bracketing M → Bracketing M

abbrev pub elements : {M : Type 0} → Bracketing M → List M
elements empty = []
elements (element x) = x ∷ []
elements (bracket a b) = elements a ++ elements b

-- what a bracketing comes to, by a neutral element and an operation
abbrev pub comes_to : {M : Type 0} → M → (M → M → M) → Bracketing M → M
comes_to e op empty = e
comes_to e op (element x) = x
comes_to e op (bracket a b) = op (comes_to e op a) (comes_to e op b)

-- r is the fold of xs, and what each bracketing of each permutation of xs comes to
pub record Total {M : Type 0} (e : M) (op : M → M → M) (xs : List M) (r : M) : Type 0 where
  pub whole : r ≡ fold op e xs
  pub any_order : (t : Bracketing M) → Permutation xs (elements t) → r ≡ comes_to e op t
