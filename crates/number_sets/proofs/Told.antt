-- What one number adds to the text of a set.
use Rattle.std.proofs.Common.{◌≡◌, ℕ, zero, suc, ◌+◌, ◌-◌, Bool, eqb, true, false, not, cond, ◌&&◌, ◌||◌, List, [], ◌++◌, codes, sym, refl, ap, ◌∙◌, add-one, append-nil, arith}
use Rattle.std.specs.Prelude.{decimal}
use Rattle.std.proofs.lemmas.Bool.Decides.{nat_tests}
use Rattle.std.proofs.Math.Bool.{and-false, and-true}
use Rattle.number_sets.specs.Sets.{holds, first, last}
use Rattle.number_sets.specs.Text.{none_below, told, told_below}
use Rattle.number_sets.specs.declared.numbers.Numbers.{Numbers}

and_left : (a b : Bool) → (a && b) ≡ true → a ≡ true
and_left true b h = refl
and_left false b h = h

and_right : (a b : Bool) → (a && b) ≡ true → b ≡ true
and_right true b h = h
and_right false b h = absurd (cc)

left_out : (a z b : Bool) → z ≡ false → b ≡ false → not (a && (z || not b)) ≡ true → a ≡ false
left_out false z b hz hb h = refl
left_out true true b hz hb h = hz
left_out true false true hz hb h = hb
left_out true false false hz hb h = sym h

begun : (s : Numbers) (n : ℕ) → holds s n ≡ false → not (first s (suc n)) ≡ true → holds s (suc n) ≡ false
begun s n h now =
    let one : eqb (suc n) 0 ≡ false = grind (arith, nat_tests) in
    let e : suc n - 1 ≡ n = omega arith in
    left_out (holds s (suc n)) (eqb (suc n) 0) (holds s (suc n - 1)) one (ap (holds s) e ∙ h) now

untold : (h x y : Bool) (a b : List ℕ) → h ≡ false → cond (h && x) a (cond (h && y) b []) ≡ []
untold true x y a b h = absurd (cc)
untold false x y a b h = refl

pub none_at_zero : (s : Numbers) → none_below s 0 ≡ true
unfolding none_below
none_at_zero s = refl

pub told_at_zero : (s : Numbers) → told_below s 0 ≡ []
unfolding told_below
told_at_zero s = refl

module _ (s : Numbers) (n : ℕ) where
  none_next : none_below s (n + 1) ≡ (none_below s n && not (first s n))
  unfolding none_below
  none_next = ap (none_below s) (add-one n)

  told_next : told_below s (n + 1) ≡ told_below s n ++ told s n
  unfolding told_below
  told_next = ap (told_below s) (add-one n)

  pub none_at_first : first s n ≡ true → none_below s (n + 1) ≡ false
  none_at_first h = none_next ∙ ap (λ b. none_below s n && not b) h ∙ and-false (none_below s n)

  pub none_elsewhere : first s n ≡ false → none_below s (n + 1) ≡ none_below s n
  none_elsewhere h = none_next ∙ ap (λ b. none_below s n && not b) h ∙ and-true (none_below s n)

  pub told_at_first : (comma : List ℕ) → first s n ≡ true → comma ≡ cond (none_below s n) [] (codes ", ") → told_below s n ++ (comma ++ decimal n) ≡ told_below s (n + 1)
  told_at_first comma h is =
      ap (λ t. told_below s n ++ (t ++ decimal n)) is
      ∙ sym (told_next ∙ ap (λ b. told_below s n ++ cond b (cond (none_below s n) [] (codes ", ") ++ decimal n) (cond (last s n) (codes ".." ++ decimal n) [])) h)

  told_behind : first s n ≡ false → told_below s (n + 1) ≡ told_below s n ++ cond (last s n) (codes ".." ++ decimal n) []
  told_behind h =
      told_next ∙ ap (λ b. told_below s n ++ cond b (cond (none_below s n) [] (codes ", ") ++ decimal n) (cond (last s n) (codes ".." ++ decimal n) [])) h

  pub told_at_last : first s n ≡ false → last s n ≡ true → told_below s n ++ (codes ".." ++ decimal n) ≡ told_below s (n + 1)
  told_at_last h k = sym (told_behind h ∙ ap (λ b. told_below s n ++ cond b (codes ".." ++ decimal n) []) k)

  pub told_within : first s n ≡ false → last s n ≡ false → told_below s n ≡ told_below s (n + 1)
  told_within h k = sym (told_behind h ∙ ap (λ b. told_below s n ++ cond b (codes ".." ++ decimal n) []) k ∙ append-nil (told_below s n))

-- where no range begins below n + 1, the set does not hold n
absent : (s : Numbers) (n : ℕ) → none_below s (suc n) ≡ true → holds s n ≡ false
unfolding none_below
absent s zero h = grind (arith, nat_tests)
absent s (suc n) h =
    let before : none_below s (suc n) ≡ true = and_left (none_below s (suc n)) (not (first s (suc n))) h in
    let now : not (first s (suc n)) ≡ true = and_right (none_below s (suc n)) (not (first s (suc n))) h in
    begun s n (absent s n before) now

pub told_none : (s : Numbers) (n : ℕ) → none_below s n ≡ true → told_below s n ≡ []
unfolding none_below told_below
told_none s zero h = refl
told_none s (suc n) h =
    let before : none_below s n ≡ true = and_left (none_below s n) (not (first s n)) h in
    let out : holds s n ≡ false = absent s n h in
    ap (λ t. t ++ told s n) (told_none s n before) ∙ untold (holds s n) _ _ _ _ out
