-- A model is gathered from its lines, so that no two models have the same.
use Rattle.std.proofs.Common.{◌≡◌, ℕ, zero, suc, ◌≤◌, cond, eqb, List, [], ◌∷◌, ◌++◌, length, get_or, take, ℤ, sym, refl, ap, ◌∙◌, add-one, arith}
use lib.Signed.{mag}
use Rattle.std.specs.List.{flat_map}
use Rattle.std.proofs.lemmas.List.{append-nil, take_all, take_more}
use Rattle.std.proofs.lemmas.List.Folds.{flat_map-map}
use Rattle.std.proofs.lemmas.Grind.{flat_map-append}
use Rattle.model_text.specs.declared.words.Name.{Name}
use Rattle.model_text.specs.declared.words.Constraint.{Constraint}
use Rattle.model_text.specs.declared.words.Constraint.TheVariants.{Start, Step, Always, Reachable}
use Rattle.model_text.specs.Words.{name_text}
use Rattle.model_text.specs.Trees.{expr, Tree}
use Rattle.model_text.specs.Lists.{up_to}
use Rattle.model_text.specs.Lines.{Definition, Line, rule, heading, range, define, constrain}
use Rattle.model_text.specs.Models.{Model, no_span, lines}

joined-none : {X A : Type 0} (xs : List X) → flat_map {X = X} {A = A} (λ _. []) xs ≡ []
joined-none [] = refl
joined-none (x ∷ xs) = joined-none xs

joined-each : {X : Type 0} (xs : List X) → flat_map (λ (x : X). x ∷ []) xs ≡ xs
joined-each [] = refl
joined-each (x ∷ xs) = ap (λ z. x ∷ z) (joined-each xs)

joined-up_to : {X A : Type 0} (f : X → List A) (n : ℕ) (g : ℕ → List X) → flat_map f (up_to n g) ≡ up_to n (λ k. flat_map f (g k))
joined-up_to f zero g = refl
joined-up_to f (suc n) g = flat_map-append f (up_to n g) (g n) ∙ ap (λ z. z ++ flat_map f (g n)) (joined-up_to f n g)

up_to_none : {A : Type 0} (n : ℕ) → up_to {A = A} n (λ _. []) ≡ []
up_to_none zero = refl
up_to_none (suc n) = append-nil (up_to n (λ _. [])) ∙ up_to_none n

up_to_take : {A : Type 0} (xs : List A) (d : A) (n : ℕ) → n ≤ length xs → up_to n (λ k. get_or xs k d ∷ []) ≡ take n xs
up_to_take xs d zero h = refl
up_to_take xs d (suc n) h =
    let l : n ≤ length xs = omega arith in
    let t = take_more xs n d (omega arith) in
    ap (λ z. z ++ (get_or xs n d ∷ [])) (up_to_take xs d n l) ∙ sym t ∙ ap (λ m. take m xs) (add-one n)

up_to_each : {A : Type 0} (xs : List A) (d : A) → up_to (length xs) (λ k. get_or xs k d ∷ []) ≡ xs
up_to_each xs d = up_to_take xs d (length xs) (omega arith) ∙ take_all (length xs) xs (omega arith)

-- what is gathered from a line, by its form; headings say nothing
abbrev from : {A : Type 0} → (ℕ → List A) → (Name → ℤ → ℤ → List A) → (Definition → List A) → (Constraint → Tree expr → List A) → Line → List A
from a b c d (rule n) = a n
from a b c d (heading h) = []
from a b c d (range x low high) = b x low high
from a b c d (define f) = c f
from a b c d (constrain k g) = d k g

abbrev rule_in : Line → List ℕ
rule_in l = from (λ n. n ∷ []) (λ _ _ _. []) (λ _. []) (λ _ _. []) l

-- of the names that begin with the byte: 101 for `ev`, 99, 115 and 117 for `c`, `s` and `u`
abbrev range_in : {A : Type 0} → ℕ → (ℤ → ℤ → A) → Line → List A
range_in b f l = from (λ _. []) (λ x low high. cond (eqb (get_or (name_text x) 0 0) b) (f low high ∷ []) []) (λ _. []) (λ _ _. []) l

abbrev definition_in : Line → List Definition
definition_in l = from (λ _. []) (λ _ _ _. []) (λ d. d ∷ []) (λ _ _. []) l

abbrev rank : Constraint → ℕ
rank Start = 0
rank Step = 1
rank Always = 2
rank Reachable = 3

abbrev guard_in : ℕ → Line → List (Tree expr)
guard_in n l = from (λ _. []) (λ _ _ _. []) (λ _. []) (λ c g. cond (eqb (rank c) n) (g ∷ []) []) l

ruleset gathers = (flat_map-append, flat_map-map, joined-up_to, joined-none, joined-each, up_to_none, up_to_each, append-nil)

module _ (M : Model) where
  rule_of : flat_map rule_in (lines M) ≡ M.rule ∷ []
  rule_of = simp gathers

  events_of : flat_map (range_in 101 (λ _ z. mag z)) (lines M) ≡ M.ranges.events ∷ []
  events_of = simp gathers

  choices_of : flat_map (range_in 99 (λ _ z. mag z)) (lines M) ≡ M.ranges.choices
  choices_of = simp gathers

  locations-of : flat_map (range_in 115 (λ _ z. mag z)) (lines M) ≡ M.ranges.locations
  locations-of = simp gathers

  values_of : flat_map (range_in 117 (λ y z. record { low = y; high = z })) (lines M) ≡ M.ranges.values
  values_of = simp gathers (up_to_each M.ranges.values no_span)

  definitions_of : flat_map definition_in (lines M) ≡ M.definitions
  definitions_of = simp gathers

  starts_of : flat_map (guard_in 0) (lines M) ≡ M.starts
  starts_of = simp gathers

  steps_of : flat_map (guard_in 1) (lines M) ≡ M.steps
  steps_of = simp gathers

  always_of : flat_map (guard_in 2) (lines M) ≡ M.always
  always_of = simp gathers

  reachable_of : flat_map (guard_in 3) (lines M) ≡ M.reachable ∷ []
  reachable_of = simp gathers

module _ (L M : Model) (e : lines L ≡ lines M) where
  -- what is gathered from the lines is the same
  same_part : {A : Type 0} (f : Line → List A) {xs ys : List A} → flat_map f (lines L) ≡ xs → flat_map f (lines M) ≡ ys → xs ≡ ys
  same_part f p q = sym p ∙ ap (λ ls. flat_map f ls) e ∙ q

  one_part : {A : Type 0} (f : Line → List A) {x y : A} → flat_map f (lines L) ≡ x ∷ [] → flat_map f (lines M) ≡ y ∷ [] → x ≡ y
  one_part f p q = let s = same_part f p q in cc

  same_ranges : L.ranges ≡ M.ranges
  same_ranges = λ i. record {
    events = one_part (range_in 101 (λ _ z. mag z)) (events_of L) (events_of M) i;
    choices = same_part (range_in 99 (λ _ z. mag z)) (choices_of L) (choices_of M) i;
    locations = same_part (range_in 115 (λ _ z. mag z)) (locations-of L) (locations-of M) i;
    values = same_part (range_in 117 (λ y z. record { low = y; high = z })) (values_of L) (values_of M) i;
  }

  pub same_model : L ≡ M
  same_model = λ i. record {
    rule = one_part rule_in (rule_of L) (rule_of M) i;
    ranges = same_ranges i;
    definitions = same_part definition_in (definitions_of L) (definitions_of M) i;
    starts = same_part (guard_in 0) (starts_of L) (starts_of M) i;
    steps = same_part (guard_in 1) (steps_of L) (steps_of M) i;
    always = same_part (guard_in 2) (always_of L) (always_of M) i;
    reachable = one_part (guard_in 3) (reachable_of L) (reachable_of M) i;
  }
