-- What a sink has taken, one text after another.
use Rattle.std.proofs.Common.{◌≡◌, ℕ, ◌+◌, ◌/◌, ◌%◌, ◌^◌, ◌<◌, ◌≤◌, List, [], ◌∷◌, ◌++◌, length, get_or, drop, ℤ, decimal, fold, sym, refl, ap, ◌∙◌, arith, w16, SFits, to_z, of_z}
use Rattle.std.proofs.lemmas.Fmt.{decimal_digit, decimal_step}
use Rattle.std.proofs.lemmas.List.{at_drop_more, at_drop_all}
use Rattle.std.proofs.lemmas.Int.{to_z-of_z}
use Rattle.std.proofs.lemmas.List.Sums.{fold_push}
use Rattle.sinks.specs.Text.{each, joined, value_text}

pub folded_append : {A B : Type 0} (f : B → A → B) (s : B) (xs ys : List A) → fold f s (xs ++ ys) ≡ fold f (fold f s xs) ys
folded_append f s [] ys = refl
folded_append f s (x ∷ xs) ys = folded_append f (f s x) xs ys

-- the last digit of a number, after those in front of it
module _ {S : Type 0} (f : S → ℕ → S) (s : S) (n : ℕ) where
  pub number_one : n < 10 → f s (48 + n % 10) ≡ fold f s (decimal n)
  number_one h =
      let e : n % 10 ≡ n = omega arith in
      ap (λ k. f s (48 + k)) e ∙ sym (ap (fold f s) (decimal_digit n h))

  pub number_more : 10 ≤ n → n < 2 ^ 64 → f (fold f s (decimal (n / 10))) (48 + n % 10) ≡ fold f s (decimal n)
  number_more h b = sym (ap (fold f s) (decimal_step n h b) ∙ fold_push f s (decimal (n / 10)) (48 + n % 10))

-- a loop over `each`: the texts that are left take the sink to where the whole does
module _ {S X : Type 0} (f : S → ℕ → S) (F : ℕ → X → List ℕ) (xs : List X) (k : ℕ) (end s : S) where
  pub each_turn : (t : S) (d : X) → k < length xs → fold f s (each F k (drop k xs)) ≡ end → t ≡ fold f s (F k (get_or xs k d)) → fold f t (each F (k + 1) (drop (k + 1) xs)) ≡ end
  each_turn t d h inv e =
      ap (λ u. fold f u (each F (k + 1) (drop (k + 1) xs))) e
      ∙ sym (folded_append f s (F k (get_or xs k d)) (each F (k + 1) (drop (k + 1) xs)))
      ∙ sym (at_drop_more (λ ys. fold f s (each F k ys)) xs k d h)
      ∙ inv

  pub each_done : length xs ≤ k → fold f s (each F k (drop k xs)) ≡ end → s ≡ end
  each_done h inv = sym (at_drop_all (λ ys. fold f s (each F k ys)) xs k h) ∙ inv

-- calls one after another: where each led, and that it took its part of the text
abbrev pub Chain : {S : Type 0} → (S → ℕ → S) → S → List (List ℕ) → S → Type 0
Chain f s [] u = u ≡ s
Chain {S} f s (x ∷ xs) u = (t : S) × (t ≡ fold f s x) × Chain f t xs u

pub chain : {S : Type 0} (f : S → ℕ → S) (s u : S) (xs : List (List ℕ)) → Chain f s xs u → u ≡ fold f s (joined xs)
chain f s u [] e = e
chain f s u (x ∷ xs) (t, e, rest) = chain f t u xs rest ∙ ap (λ v. fold f v (joined xs)) e ∙ sym (folded_append f s x (joined xs))

-- a signed argument of a call shows as its bits and back
pub value-sent : {S : Type 0} (f : S → ℕ → S) (s t : S) (z : ℤ) → SFits w16 z → t ≡ fold f s (value_text (to_z w16 (of_z w16 z))) → t ≡ fold f s (value_text z)
value-sent f s t z h e = e ∙ ap (λ y. fold f s (value_text y)) (to_z-of_z w16 z h)
