-- One more number of a list in a set.
use Rattle.std.proofs.Common.{◌≡◌, ℕ, Bool, true, false, ◌&&◌, ◌||◌, eqb, ltb, List, [], ◌∷◌, ◌++◌, sym, refl, ap, ◌∙◌, arith}
use Rattle.std.proofs.lemmas.Bool.Decides.{nat_tests}
use Rattle.number_sets.specs.Sets.{among}

or_assoc : (a b c : Bool) → (a || (b || c)) ≡ ((a || b) || c)
or_assoc true b c = refl
or_assoc false b c = refl

or_false : (a : Bool) → (a || false) ≡ a
or_false true = refl
or_false false = refl

among-push : (xs : List ℕ) (x k : ℕ) → among (xs ++ x ∷ []) k ≡ (among xs k || eqb k x)
among-push [] x k = or_false (eqb k x)
among-push (y ∷ ys) x k = ap (λ b. eqb k y || b) (among-push ys x k) ∙ or_assoc (eqb k y) (among ys k) (eqb k x)

distribute : (k x : ℕ) (a : Bool) → ((ltb k 64 && a) || (eqb k x && ltb x 64)) ≡ (ltb k 64 && (a || eqb k x))
distribute k x a = grind (arith, nat_tests)

pub list_more : (xs : List ℕ) (x k : ℕ) → ((ltb k 64 && among xs k) || (eqb k x && ltb x 64)) ≡ (ltb k 64 && among (xs ++ x ∷ []) k)
list_more xs x k = distribute k x (among xs k) ∙ ap (λ b. ltb k 64 && b) (sym (among-push xs x k))
