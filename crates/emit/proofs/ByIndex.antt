-- Texts made index by index: the first of them apart, over a list, over a mapped list; and lists joined after a map.
use Rattle.std.proofs.Common.{◌≡◌, ℕ, zero, suc, ◌+◌, ◌<◌, List, [], ◌∷◌, ◌++◌, map, length, get_or, sym, refl, ap, ◌∙◌, append_assoc, append-nil, add-one, arith}
use Rattle.std.specs.List.{flat_map}
use Rattle.std.proofs.lemmas.List.{length-map, get_or-map}
use Rattle.sinks.specs.Text.{each}
use Rattle.model_text.specs.Lists.{up_to}
use Rattle.emit.proofs.Sent.{joined-up_to}

pub joined-map : {X Y A : Type 0} (f : Y → List A) (g : X → Y) (xs : List X) → flat_map f (map g xs) ≡ flat_map (λ x. f (g x)) xs
joined-map f g [] = refl
joined-map f g (x ∷ xs) = ap (λ z. f (g x) ++ z) (joined-map f g xs)

-- from what is known at each index
pub joined_by : {X A : Type 0} (f : X → List A) (n : ℕ) (F : ℕ → List X) {G : ℕ → List A} → ((k : ℕ) → flat_map f (F k) ≡ G k) → flat_map f (up_to n F) ≡ up_to n G
joined_by f n F e = joined-up_to f n F ∙ (λ i. up_to n (λ k. e k i))

-- one element for each index
pub joined-ones : {X A : Type 0} (f : X → List A) (n : ℕ) (g : ℕ → X) → flat_map f (up_to n (λ k. g k ∷ [])) ≡ up_to n (λ k. f (g k))
joined-ones f n g = joined_by f n (λ k. g k ∷ []) (λ k. append-nil (f (g k)))

pub up_to_same : {A : Type 0} (n : ℕ) (F G : ℕ → List A) → ((k : ℕ) → k < n → F k ≡ G k) → up_to n F ≡ up_to n G
up_to_same zero F G e = refl
up_to_same (suc n) F G e = λ i. up_to_same n F G (λ k low. e k (omega arith)) i ++ e n (omega arith) i

pub up_to_shift : {A : Type 0} (n : ℕ) (F : ℕ → List A) → up_to (suc n) F ≡ F 0 ++ up_to n (λ j. F (suc j))
up_to_shift zero F = sym (append-nil (F 0))
up_to_shift (suc n) F = ap (λ z. z ++ F (suc n)) (up_to_shift n F) ∙ append_assoc (F 0) (up_to n (λ j. F (suc j))) (F (suc n))

each_next : {X : Type 0} (G : ℕ → X → List ℕ) (p : ℕ) (xs : List X) → each G (p + 1) xs ≡ each (λ j. G (suc j)) p xs
each_next G p [] = refl
each_next G p (x ∷ xs) = λ i. G (add-one p i) x ++ each_next G (p + 1) xs i

pub each-up_to : {X : Type 0} (G : ℕ → X → List ℕ) (xs : List X) (d : X) → each G 0 xs ≡ up_to (length xs) (λ j. G j (get_or xs j d))
each-up_to G [] d = refl
each-up_to G (x ∷ xs) d =
    ap (λ z. G 0 x ++ z) (each_next G 0 xs ∙ each-up_to (λ j. G (suc j)) xs d)
    ∙ sym (up_to_shift (length xs) (λ j. G j (get_or (x ∷ xs) j d)))

-- a first one, and one for each of a list
pub first-each : {X : Type 0} (F : ℕ → List ℕ) (G : ℕ → X → List ℕ) (xs : List X) (d : X)
    → ((j : ℕ) → F (suc j) ≡ G (suc j) (get_or xs j d)) → up_to (suc (length xs)) F ≡ F 0 ++ each (λ j. G (j + 1)) 0 xs
first-each F G xs d e =
    up_to_shift (length xs) F
    ∙ ap (λ z. F 0 ++ z) ((λ i. up_to (length xs) (λ j. (e j ∙ ap (λ p. G p (get_or xs j d)) (sym (add-one j))) i)) ∙ sym (each-up_to (λ j. G (j + 1)) xs d))

pub up_to_map : {X Y A : Type 0} (f : X → Y) (xs : List X) (d : X) (e : Y) (G : ℕ → Y → List A)
    → up_to (length (map f xs)) (λ k. G k (get_or (map f xs) k e)) ≡ up_to (length xs) (λ k. G k (f (get_or xs k d)))
up_to_map f xs d e G =
    ap (λ n. up_to n (λ k. G k (get_or (map f xs) k e))) (length-map xs f)
    ∙ up_to_same (length xs) _ _ (λ k low. ap (G k) (get_or-map f xs k d e low))
