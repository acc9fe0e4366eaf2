-- What holds of each element of a list, and of those before it; the least number above a list.
use Rattle.std.proofs.Common.{◌≡◌, ℕ, ◌<◌, ◌≤◌, max, List, [], ◌∷◌, ◌++◌, map, sym, subst, arith}
use Rattle.std.proofs.lemmas.List.{map-append}
use Rattle.scan.specs.Stands.{Each}
use Rattle.system.specs.Formed.{All, Rising}
use Rattle.system.specs.Scan.{bound}

-- all elements
pub all_like : {A : Type 0} (P Q : A → Type 0) → ((x : A) → P x → Q x) → (xs : List A) → All P xs → All Q xs
all_like P Q to [] h = tt
all_like P Q to (x ∷ xs) h = (to x h.0, all_like P Q to xs h.1)

pub all_both : {A : Type 0} (P Q : A → Type 0) (xs : List A) → All P xs → All Q xs → All (λ x. P x × Q x) xs
all_both P Q [] h g = tt
all_both P Q (x ∷ xs) h g = ((h.0, g.0), all_both P Q xs h.1 g.1)

pub all_append : {A : Type 0} (P : A → Type 0) (xs ys : List A) → All P xs → All P ys → All P (xs ++ ys)
all_append P [] ys h g = g
all_append P (x ∷ xs) ys h g = (h.0, all_append P xs ys h.1 g)

pub all_split : {A : Type 0} (P : A → Type 0) (xs ys : List A) → All P (xs ++ ys) → All P xs × All P ys
all_split P [] ys h = (tt, h)
all_split P (x ∷ xs) ys h = let r = all_split P xs ys h.1 in ((h.0, r.0), r.1)

pub all_map : {A B : Type 0} (f : A → B) (P : B → Type 0) (xs : List A) → All (λ x. P (f x)) xs → All P (map f xs)
all_map f P [] h = tt
all_map f P (x ∷ xs) h = (h.0, all_map f P xs h.1)

pub all_any : {A : Type 0} (xs : List A) → All (λ (x : A). Unit {0}) xs
all_any [] = tt
all_any (x ∷ xs) = (tt, all_any xs)

-- each element and those before it
pub each_like : {A : Type 0} (P Q : List A → A → Type 0) → ((before : List A) (x : A) → P before x → Q before x) → (before xs : List A) → Each P before xs → Each Q before xs
each_like P Q to before [] h = tt
each_like P Q to before (x ∷ xs) h = (to before x h.0, each_like P Q to (before ++ x ∷ []) xs h.1)

pub each_both : {A : Type 0} (P Q : List A → A → Type 0) (before xs : List A) → Each P before xs → Each Q before xs → Each (λ b x. P b x × Q b x) before xs
each_both P Q before [] h g = tt
each_both P Q before (x ∷ xs) h g = ((h.0, g.0), each_both P Q (before ++ x ∷ []) xs h.1 g.1)

pub each_all : {A : Type 0} (P : A → Type 0) (before xs : List A) → Each (λ b x. P x) before xs → All P xs
each_all P before [] h = tt
each_all P before (x ∷ xs) h = (h.0, each_all P (before ++ x ∷ []) xs h.1)

pub all_each : {A : Type 0} (P : A → Type 0) (before xs : List A) → All P xs → Each (λ b x. P x) before xs
all_each P before [] h = tt
all_each P before (x ∷ xs) h = (h.0, all_each P (before ++ x ∷ []) xs h.1)

-- of what the elements are mapped to
pub each_map : {A B : Type 0} (f : A → B) (P : List B → B → Type 0) (before xs : List A) → Each (λ b x. P (map f b) (f x)) before xs → Each P (map f before) (map f xs)
each_map f P before [] h = tt
each_map f P before (x ∷ xs) h =
    let g = each_map f P (before ++ x ∷ []) xs h.1 in
    (h.0, subst (λ b. Each P b (map f xs)) (map-append f before (x ∷ [])) g)

pub map_each : {A B : Type 0} (f : A → B) (P : List B → B → Type 0) (before xs : List A) → Each P (map f before) (map f xs) → Each (λ b x. P (map f b) (f x)) before xs
map_each f P before [] h = tt
map_each f P before (x ∷ xs) h =
    (h.0, map_each f P (before ++ x ∷ []) xs (subst (λ b. Each P b (map f xs)) (sym (map-append f before (x ∷ []))) h.1))

-- the least number above a list
pub bound-under : (xs : List ℕ) (n : ℕ) → bound xs ≤ n → All (λ y. y < n) xs
bound-under [] n h = tt
bound-under (x ∷ xs) n h = (omega arith, bound-under xs n (omega arith))

pub under_bound : (xs : List ℕ) (n : ℕ) → All (λ y. y < n) xs → bound xs ≤ n
under_bound [] n h = omega arith
under_bound (x ∷ xs) n h = let k : x < n = h.0 in let m = under_bound xs n h.1 in omega arith

pub bound-append : (xs ys : List ℕ) → bound (xs ++ ys) ≡ max (bound xs) (bound ys)
bound-append [] ys = omega arith
bound-append (x ∷ xs) ys = let e = bound-append xs ys in omega arith

pub bound-rising : (xs : List ℕ) → Each (λ before x. bound before ≤ x) [] xs → Rising xs
bound-rising xs h = each_like (λ before x. bound before ≤ x) (λ before x. All (λ y. y < x) before) (λ before x. bound-under before x) [] xs h

pub rising-bound : (xs : List ℕ) → Rising xs → Each (λ before x. bound before ≤ x) [] xs
rising-bound xs h = each_like (λ before x. All (λ y. y < x) before) (λ before x. bound before ≤ x) (λ before x. under_bound before x) [] xs h
