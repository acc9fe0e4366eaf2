-- No name of a system's model is defined twice: each has a key, and the keys rise.
use Rattle.std.proofs.Common.{ℕ, zero, suc, ◌+◌, ◌*◌, ◌<◌, ◌≤◌, List, [], ◌∷◌, ◌++◌, length, ap, inl, inr, arith, lit≤}
use Rattle.std.proofs.lemmas.Bool.{cond_both}
use Rattle.scan.specs.Stands.{Each}
use Rattle.clash.specs.Rules.{ClashRule}
use Rattle.system.specs.System.{System}
use Rattle.model_text.specs.declared.words.Single.{Single}
use Rattle.model_text.specs.declared.words.Single.TheVariants.{Choice, Location, Variable, SettledValue, Permission, PlantsOpen, LocationMarked}
use Rattle.model_text.specs.declared.words.Double.{Double}
use Rattle.model_text.specs.declared.words.Double.TheVariants.{Transition, WishStatus, WishValue, JoinedStatus, JoinedValue, Open}
use Rattle.model_text.specs.declared.words.Name.{Name}
use Rattle.model_text.specs.declared.words.Name.TheVariants as N
use Rattle.model_text.specs.Lists.{up_to}
use Rattle.model_text.specs.Scopes.{Among}
use Rattle.translation.specs.Systems.{automaton, is_in, controlled}
use Rattle.translation.specs.Translate.{choices, choice_names, wish_names, value_names, open_names, event_names, mark_names, names}
use Rattle.translation.proofs.Indexed.{only_if_lem, among-split}

abbrev single_key : Single → ℕ → ℕ
single_key Choice n = 0
single_key Location n = 0
single_key Variable n = 0
single_key SettledValue n = 100000 + n * 1000 + 900
single_key Permission n = 100000 + n * 1000 + 901
single_key PlantsOpen n = 200000 + n * 100 + 99
single_key LocationMarked n = 300000 + n

abbrev double_key : Double → ℕ → ℕ → ℕ
double_key Transition n m = 1 + n * 1000 + m
double_key WishStatus n m = 100000 + n * 1000 + m * 4
double_key WishValue n m = 100000 + n * 1000 + m * 4 + 1
double_key JoinedStatus n m = 100000 + n * 1000 + m * 4 + 2
double_key JoinedValue n m = 100000 + n * 1000 + m * 4 + 3
double_key Open n m = 200000 + n * 100 + m

abbrev key : Name → ℕ
key N.Event = 0
key N.Marked = 400000
key (N.One x n) = single_key x n
key (N.Two x n m) = double_key x n m

-- the keys rise, from low on and below high
abbrev Rises : ℕ → ℕ → List Name → Type 0
Rises low high [] = low ≤ high
Rises low high (x ∷ xs) = (low ≤ key x) × Rises (suc (key x)) high xs

rises_wider : (l m n o : ℕ) (xs : List Name) → l ≤ m → n ≤ o → Rises m n xs → Rises l o xs
rises_wider l m n o [] a b h = omega arith
rises_wider l m n o (x ∷ xs) a b h = (omega (arith, h.0), rises_wider (suc (key x)) (suc (key x)) n o xs (omega arith) b h.1)

rises_append : (l m n : ℕ) (xs ys : List Name) → Rises l m xs → Rises m n ys → Rises l n (xs ++ ys)
rises_append l m n [] ys h g = rises_wider l m n n ys h (omega arith) g
rises_append l m n (x ∷ xs) ys h g = (h.0, rises_append (suc (key x)) m n xs ys h.1 g)

-- the list at each index has a width of keys for itself
rises_up_to : (l w m n : ℕ) (f : ℕ → List Name) → l + n * w ≤ m → ((k : ℕ) → k < n → Rises (l + k * w) (l + k * w + w) (f k)) → Rises l m (up_to n f)
rises_up_to l w m zero f room h = omega arith
rises_up_to l w m (suc n) f room h =
    rises_append l (l + n * w) m (up_to n f) (f n) (rises_up_to l w (l + n * w) n f (omega arith) (λ k i. h k (omega arith)))
    (rises_wider (l + n * w) (l + n * w) (l + n * w + w) m (f n) (omega arith) (omega arith) (h n (omega arith)))

fresh_rising : (l m : ℕ) (before xs : List Name) → ((x : Name) → Among before x → key x < l) → Rises l m xs → Each (λ b x. Among b x → ⊥) before xs
fresh_rising l m before [] below h = tt
fresh_rising l m before (x ∷ xs) below h = (
  λ a. omega (arith, below x a, h.0),
  fresh_rising (suc (key x)) m (before ++ x ∷ []) xs
      (λ y a. elim (among-split before (x ∷ []) y a) [ inl b ↦ omega (arith, below y b, h.0) | inr (inl e) ↦ omega (arith, ap key e) | inr (inr b) ↦ absurd b ])
      h.1,
)

module _ (S : System) (R : ClashRule) where
  abbrev n_a : ℕ
  n_a = length S.automata

  rises_choices : (k : ℕ) → length (automaton S k).transitions ≤ 512 → Rises (1 + k * 1000) (1 + k * 1000 + 1000) (choice_names S R k)
  rises_choices k few = rises_up_to (1 + k * 1000) 1 (1 + k * 1000 + 1000) (choices S R k) (λ j. N.Two Transition k j ∷ []) (omega arith) (λ j _. (omega arith, omega arith))

  rises_value : (i : ℕ) → n_a ≤ 12 → Rises (100000 + i * 1000) (100000 + i * 1000 + 1000) (value_names S R i)
  rises_value i few =
      let l = 100000 + i * 1000 in
      rises_append l (l + 900) (l + 1000) (up_to n_a (wish_names S R i)) (N.One SettledValue i ∷ (N.One Permission i ∷ []))
      (rises_up_to l 4 (l + 900) n_a (wish_names S R i) (omega arith) (λ k _. (omega arith, (omega arith, (omega arith, (omega arith, omega arith))))))
      (omega arith, (omega arith, omega arith))

  rises_event : (e : ℕ) → n_a ≤ 12 → Rises (200000 + e * 100) (200000 + e * 100 + 100) (event_names S R e)
  rises_event e few =
      let l = 200000 + e * 100 in
      cond_both (controlled S e) (up_to n_a (open_names S R e) ++ (N.One PlantsOpen e ∷ [])) [] (Rises l (l + 100))
      (λ _. rises_append l (l + 99) (l + 100) (up_to n_a (open_names S R e)) (N.One PlantsOpen e ∷ [])
      (rises_up_to l 1 (l + 99) n_a (open_names S R e) (omega arith)
      (λ k _. only_if_lem (Rises (l + k * 1) (l + k * 1 + 1)) (is_in e (automaton S k).alphabet) (N.Two Open e k) (omega arith) (λ _. (omega arith, omega arith))))
      (omega arith, omega arith))
      (λ _. omega arith)

  pub fresh : n_a ≤ 12 → length S.variables ≤ 12 → length S.kinds ≤ 64 → ((k : ℕ) → k < n_a → length (automaton S k).transitions ≤ 512) → Each (λ b x. Among b x → ⊥) [] (names S R)
  fresh a v e t =
      fresh_rising 1 400001 [] (names S R) (λ x h. absurd h)
      (rises_append 1 100000 400001 (up_to n_a (choice_names S R)) _ (rises_up_to 1 1000 100000 n_a (choice_names S R) (omega arith) (λ k l. rises_choices k (t k l)))
      (rises_append 100000 200000 400001 (up_to (length S.variables) (value_names S R)) _ (rises_up_to 100000 1000 200000 (length S.variables) (value_names S R) (omega arith) (λ i _. rises_value i a))
      (rises_append 200000 300000 400001 (up_to (length S.kinds) (event_names S R)) _ (rises_up_to 200000 100 300000 (length S.kinds) (event_names S R) (omega arith) (λ i _. rises_event i a))
      (rises_append 300000 400000 400001 (up_to n_a (mark_names S R)) (N.Marked ∷ []) (rises_up_to 300000 1 400000 n_a (mark_names S R) (omega arith) (λ k _. (omega arith, omega arith))) (lit≤ tt, lit≤ tt)))))
