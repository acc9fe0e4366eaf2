-- Lists made index by index: what holds of their elements, what is among them, and how long they are.
use Rattle.std.proofs.Common.{◌≡◌, ℕ, zero, suc, ◌+◌, ◌*◌, ◌<◌, ◌≤◌, Bool, true, false, ◌⊎◌, List, [], ◌∷◌, ◌++◌, length, get_or, sym, refl, subst, inl, inr, arith}
use Rattle.std.proofs.lemmas.List.{append_assoc, append-nil, length-append}
use Rattle.std.proofs.lemmas.Bool.{cases_order}
use Rattle.scan.specs.Stands.{Each}
use Rattle.system.specs.Formed.{All}
use Rattle.system.proofs.Eaches.{all_append}
use Rattle.model_text.specs.declared.words.Name.{Name}
use Rattle.model_text.specs.Lists.{up_to}
use Rattle.model_text.specs.Scopes.{Among}
use Rattle.translation.specs.Cases.{only_if}

-- at most one element
pub only_if_lem : {A : Type 0} (P : List A → Type 0) (b : Bool) (x : A) → P [] → (b ≡ true → P (x ∷ [])) → P (only_if b x)
only_if_lem P true x none one = one refl
only_if_lem P false x none one = none

pub all_at : {A : Type 0} (P : A → Type 0) (xs : List A) → All P xs → (i : ℕ) (d : A) → i < length xs → P (get_or xs i d)
all_at P [] h i d l = absurd (let z : ⊥ = omega arith in z)
all_at P (x ∷ xs) h zero d l = h.0
all_at P (x ∷ xs) h (suc i) d l = all_at P xs h.1 i d (omega arith)

pub all_from : {A : Type 0} (P : A → Type 0) (xs : List A) (d : A) → ((i : ℕ) → i < length xs → P (get_or xs i d)) → All P xs
all_from P [] d h = tt
all_from P (x ∷ xs) d h = (h 0 (omega arith), all_from P xs d (λ i l. h (suc i) (omega arith)))

pub all_up_to : {A : Type 0} (P : A → Type 0) (n : ℕ) (f : ℕ → List A) → ((k : ℕ) → k < n → All P (f k)) → All P (up_to n f)
all_up_to P zero f h = tt
all_up_to P (suc n) f h = all_append P (up_to n f) (f n) (all_up_to P n f (λ k l. h k (omega arith))) (h n (omega arith))

-- of each element and those before it
pub each_append : {A : Type 0} (P : List A → A → Type 0) (before xs ys : List A) → Each P before xs → Each P (before ++ xs) ys → Each P before (xs ++ ys)
each_append P before [] ys h g = subst (λ b. Each P b ys) (append-nil before) g
each_append P before (x ∷ xs) ys h g =
    (h.0, each_append P (before ++ x ∷ []) xs ys h.1 (subst (λ b. Each P b ys) (sym (append_assoc before (x ∷ []) xs)) g))

pub each-up_to : {A : Type 0} (P : List A → A → Type 0) (before : List A) (n : ℕ) (f : ℕ → List A) → ((k : ℕ) → k < n → Each P (before ++ up_to k f) (f k)) → Each P before (up_to n f)
each-up_to P before zero f h = tt
each-up_to P before (suc n) f h = each_append P before (up_to n f) (f n) (each-up_to P before n f (λ k l. h k (omega arith))) (h n (omega arith))

-- names in a list
pub among-left : (xs ys : List Name) (x : Name) → Among xs x → Among (xs ++ ys) x
among-left [] ys x h = absurd h
among-left (y ∷ xs) ys x (inl e) = inl e
among-left (y ∷ xs) ys x (inr h) = inr (among-left xs ys x h)

pub among-right : (xs ys : List Name) (x : Name) → Among ys x → Among (xs ++ ys) x
among-right [] ys x h = h
among-right (y ∷ xs) ys x h = inr (among-right xs ys x h)

pub among-split : (xs ys : List Name) (x : Name) → Among (xs ++ ys) x → Among xs x ⊎ Among ys x
among-split [] ys x h = inr h
among-split (y ∷ xs) ys x (inl e) = inl (inl e)
among-split (y ∷ xs) ys x (inr h) = elim (among-split xs ys x h) [ inl a ↦ inl (inr a) | inr b ↦ inr b ]

pub among-up_to : (n : ℕ) (f : ℕ → List Name) (k : ℕ) → k < n → (x : Name) → Among (f k) x → Among (up_to n f) x
among-up_to zero f k l x h = absurd (let z : ⊥ = omega arith in z)
among-up_to (suc n) f k l x h =
    elim (cases_order k n) [
      | inl e ↦ among-right (up_to n f) (f n) x (subst (λ j. Among (f j) x) e h)
      | inr (inl e) ↦ among-left (up_to n f) (f n) x (among-up_to n f k e x h)
      | inr (inr e) ↦ absurd (let z : ⊥ = omega arith in z)
    ]

-- lengths
pub length_up_to : {A : Type 0} (n c : ℕ) (f : ℕ → List A) → ((k : ℕ) → k < n → length (f k) ≤ c) → length (up_to n f) ≤ n * c
length_up_to zero c f h = omega arith
length_up_to (suc n) c f h =
    let e = length-append (up_to n f) (f n) in
    let i = length_up_to n c f (λ k l. h k (omega arith)) in
    let j = h n (omega arith) in
    omega arith

abbrev pub sum_to : ℕ → (ℕ → ℕ) → ℕ
sum_to zero g = 0
sum_to (suc n) g = sum_to n g + g n

pub length_sum_to : {A : Type 0} (n : ℕ) (f : ℕ → List A) (g : ℕ → ℕ) → ((k : ℕ) → length (f k) ≤ suc (g k)) → length (up_to n f) ≤ n + sum_to n g
length_sum_to zero f g h = omega arith
length_sum_to (suc n) f g h =
    let e = length-append (up_to n f) (f n) in
    let i = length_sum_to n f g h in
    let j = h n in
    omega arith

-- the first summand apart
pub sum_to_first : (n : ℕ) (g : ℕ → ℕ) → sum_to (suc n) g ≡ g 0 + sum_to n (λ k. g (suc k))
sum_to_first zero g = omega arith
sum_to_first (suc n) g = let h = sum_to_first n g in omega arith
