-- What a sink has taken after several calls, and after the turns of a loop.
use Rattle.std.proofs.Common.{◌≡◌, ℕ, zero, suc, ◌+◌, List, [], ◌∷◌, ◌++◌, decimal, fold, sym, refl, ap, ◌∙◌, append_assoc, append-nil, add-one, arith}
use Rattle.std.proofs.lemmas.Fmt.{decimal_digit}
use Rattle.std.specs.List.{flat_map}
use Rattle.sinks.proofs.Folds.{folded_append}
use Rattle.model_text.specs.Lists.{up_to}

-- texts one after another, and then a last one
abbrev pub row_of : List (List ℕ) → List ℕ → List ℕ
row_of [] z = z
row_of (x ∷ xs) z = x ++ row_of xs z

-- calls one after another: where each led, and that it took its part of the text
abbrev pub Calls : {S : Type 0} → (S → ℕ → S) → S → List (List ℕ) → List ℕ → S → Type 0
Calls f s [] z u = u ≡ fold f s z
Calls {S} f s (x ∷ xs) z u = (t : S) × (t ≡ fold f s x) × Calls f t xs z u

pub sent : {S : Type 0} (f : S → ℕ → S) (s u : S) (xs : List (List ℕ)) (z : List ℕ) → Calls f s xs z u → u ≡ fold f s (row_of xs z)
sent f s u [] z e = e
sent f s u (x ∷ xs) z (t, e, rest) = sent f t u xs z rest ∙ ap (λ v. fold f v (row_of xs z)) e ∙ sym (folded_append f s x (row_of xs z))

-- the same, of a text in another bracketing
pub sent_as : {S : Type 0} (f : S → ℕ → S) (s u : S) (xs : List (List ℕ)) (z t : List ℕ) → Calls f s xs z u → row_of xs z ≡ t → u ≡ fold f s t
sent_as f s u xs z t calls e = sent f s u xs z calls ∙ ap (fold f s) e

-- a loop that counts up: what it has taken so far
module _ {S : Type 0} (f : S → ℕ → S) (F : ℕ → List ℕ) (start : S) where
  pub turn : (n : ℕ) (s t : S) → s ≡ fold f start (up_to n F) → t ≡ fold f s (F n) → t ≡ fold f start (up_to (n + 1) F)
  turn n s t so e = e ∙ ap (λ v. fold f v (F n)) so ∙ sym (folded_append f start (up_to n F) (F n)) ∙ ap (λ k. fold f start (up_to k F)) (sym (add-one n))

-- a loop over what is left: the rest of the text takes the sink to where the whole does
module _ {S : Type 0} (f : S → ℕ → S) (end s t : S) (x z : List ℕ) where
  pub onward : fold f s (x ++ z) ≡ end → t ≡ fold f s x → fold f t z ≡ end
  onward inv e = ap (λ v. fold f v z) e ∙ sym (folded_append f s x z) ∙ inv

pub joined-append : {X A : Type 0} (f : X → List A) (xs ys : List X) → flat_map f (xs ++ ys) ≡ flat_map f xs ++ flat_map f ys
joined-append f [] ys = refl
joined-append f (x ∷ xs) ys = ap (λ z. f x ++ z) (joined-append f xs ys) ∙ sym (append_assoc (f x) (flat_map f xs) (flat_map f ys))

pub joined-up_to : {X A : Type 0} (f : X → List A) (n : ℕ) (F : ℕ → List X) → flat_map f (up_to n F) ≡ up_to n (λ k. flat_map f (F k))
joined-up_to f zero F = refl
joined-up_to f (suc n) F = joined-append f (up_to n F) (F n) ∙ ap (λ z. z ++ flat_map f (F n)) (joined-up_to f n F)

-- a number of one digit
pub zero_digit : decimal 0 ≡ 48 ∷ []
zero_digit = decimal_digit 0 (omega arith)

pub one_digit : decimal 1 ≡ 49 ∷ []
one_digit = decimal_digit 1 (omega arith)

-- what brings texts one after another into one form
pub ruleset texts = (folded_append, append_assoc, append-nil, zero_digit, one_digit)
