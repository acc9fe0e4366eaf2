-- The definitions of a system's model stand in an order in which each uses only those above it.
use Rattle.std.proofs.Common.{◌≡◌, ℕ, zero, suc, pred, ◌<◌, ◌≤◌, Bool, true, false, List, [], ◌∷◌, ◌++◌, length, refl, inl, inr, arith}
use Rattle.std.proofs.lemmas.Bool.{and_parts, cond_both, false≢true}
use Rattle.scan.specs.Stands.{Each}
use Rattle.clash.specs.Rules.{ClashRule, Lawful}
use Rattle.system.specs.System.{System}
use Rattle.system.specs.Formed.{WellFormed}
use Rattle.model_text.specs.declared.words.Single.TheVariants.{SettledValue, Permission, PlantsOpen, LocationMarked}
use Rattle.model_text.specs.declared.words.Double.TheVariants.{Transition as Choices, WishStatus, WishValue, JoinedStatus, JoinedValue, Open}
use Rattle.model_text.specs.declared.words.Name.{Name}
use Rattle.model_text.specs.declared.words.Name.TheVariants as N
use Rattle.model_text.specs.Lists.{up_to}
use Rattle.model_text.specs.Scopes.{Among}
use Rattle.translation.specs.Systems.{automaton, is_plant, is_in, controlled}
use Rattle.translation.specs.Written.{join_name}
use Rattle.translation.specs.Cases.{only_if}
use Rattle.translation.specs.Translate.{last_automaton, choices, choice_names, wish_names, value_names, open_names, event_names, mark_names, names}
use Rattle.translation.proofs.Indexed.{only_if_lem, each_append, each-up_to, among-left, among-right, among-up_to}
use Rattle.translation.proofs.Definitions.{Stood, Joinable, joinable_more, stood_choice, stood_status, stood_value, stood_mark, stood_open, stood_joined_status, stood_joined_value, stood_settled, stood_permission, stood_plants, stood_marked}

pub among-only-if : (b : Bool) (x : Name) → b ≡ true → Among (only_if b x) x
among-only-if true x e = inl refl
among-only-if false x e = absurd (false≢true e)

below_last : (n : ℕ) → 1 ≤ n → pred n < n
below_last n l = omega arith

module _ (S : System) (R : ClashRule) (formed : WellFormed S) (lawful : Lawful R) where
  abbrev n_a : ℕ
  n_a = length S.automata

  abbrev So : List Name → List Name → Type 0
  So before xs = Each (Stood S R) before xs

  joinable : (before : List Name) (i k : ℕ) → Joinable (((before ++ up_to k (wish_names S R i)) ++ (N.Two WishStatus i k ∷ [])) ++ (N.Two WishValue i k ∷ [])) i k
  joinable before i zero =
      let b = before ++ [] in
      let W : List Name = N.Two WishStatus i 0 ∷ [] in
      let V : List Name = N.Two WishValue i 0 ∷ [] in
      (among-left (b ++ W) V _ (among-right b W _ (inl refl)), among-right (b ++ W) V _ (inl refl))
  joinable before i (suc k) =
      let F = wish_names S R i in
      let b = before ++ up_to (suc k) F in
      let W : List Name = N.Two WishStatus i (suc k) ∷ [] in
      let V : List Name = N.Two WishValue i (suc k) ∷ [] in
      let earlier = λ (x : Name) (h : Among (F k) x). among-left (b ++ W) V x (among-left b W x (among-right before (up_to (suc k) F) x (among-right (up_to k F) (F k) x h))) in
      four (λ x. Among ((b ++ W) ++ V) x) i k (earlier _ (inr (inr (inl refl)))) (earlier _ (inr (inr (inr (inl refl))))) (among-left (b ++ W) V _ (among-right b W _ (inl refl))) (among-right (b ++ W) V _ (inl refl))
    where
      four : (P : Name → Type 0) (i k : ℕ) → P (join_name i k 0) → P (join_name i k 1) → P (join_name i k 2) → P (join_name i k 3) → (v : ℕ) → P (join_name i k v)
      four P i k a b c d zero = a
      four P i k a b c d (suc zero) = b
      four P i k a b c d (suc (suc zero)) = c
      four P i k a b c d (suc (suc (suc v))) = d

  ordered_wishes : (before : List Name) (i : ℕ) → i < length S.variables → (k : ℕ) → k < n_a → So (before ++ up_to k (wish_names S R i)) (wish_names S R i k)
  ordered_wishes before i h k l =
      let b = before ++ up_to k (wish_names S R i) in
      let b1 = b ++ (N.Two WishStatus i k ∷ []) in
      let b2 = b1 ++ (N.Two WishValue i k ∷ []) in
      let J : List Name = N.Two JoinedStatus i k ∷ [] in
      let j = joinable before i k in (
        stood_status S R formed lawful b k l i h,
        (stood_value S R formed lawful b1 k l i h, (stood_joined_status S R formed lawful b2 i h k l j, (stood_joined_value S R formed lawful (b2 ++ J) i h k l (joinable_more b2 J i k j), tt))),
      )

  ordered_value : (before : List Name) (i : ℕ) → i < length S.variables → So before (value_names S R i)
  ordered_value before i h =
      let F = wish_names S R i in
      let b = before ++ up_to n_a F in
      let Z : List Name = N.One SettledValue i ∷ [] in
      let n = last_automaton S R in
      let l = below_last n_a formed.some_automaton in
      let a = among-right before (up_to n_a F) (N.Two JoinedStatus i n) (among-up_to n_a F n l _ (inr (inr (inl refl)))) in
      let v = among-right before (up_to n_a F) (N.Two JoinedValue i n) (among-up_to n_a F n l _ (inr (inr (inr (inl refl))))) in
      each_append (Stood S R) before (up_to n_a F) (N.One SettledValue i ∷ (N.One Permission i ∷ []))
      (each-up_to (Stood S R) before n_a F (ordered_wishes before i h))
      (stood_settled S R formed lawful b i h a v, (stood_permission S R formed lawful (b ++ Z) i h (among-left b Z _ a) (among-left b Z _ v), tt))

  ordered_event : (before : List Name) (e : ℕ) → e < length S.kinds → So before (event_names S R e)
  ordered_event before e h =
      let F = open_names S R e in
      cond_both (controlled S e) (up_to n_a F ++ (N.One PlantsOpen e ∷ [])) [] (So before)
      (λ _. each_append (Stood S R) before (up_to n_a F) (N.One PlantsOpen e ∷ [])
      (each-up_to (Stood S R) before n_a F
      (λ k l. only_if_lem (So (before ++ up_to k F)) (is_in e (automaton S k).alphabet) (N.Two Open e k) tt (λ _. (stood_open S R formed lawful (before ++ up_to k F) k l e h, tt)))) (
        stood_plants S R formed lawful (before ++ up_to n_a F) e h
            (λ k l g. among-right before (up_to n_a F) (N.Two Open e k)
            (among-up_to n_a F k l _ (among-only-if (is_in e (automaton S k).alphabet) (N.Two Open e k) (and_parts (is_plant (automaton S k).role) (is_in e (automaton S k).alphabet) g).1))),
        tt,
      ))
      (λ _. tt)

  pub ordered : So [] (names S R)
  ordered =
      let As = up_to n_a (choice_names S R) in
      let Bs = up_to (length S.variables) (value_names S R) in
      let Cs = up_to (length S.kinds) (event_names S R) in
      let Ds = up_to n_a (mark_names S R) in
      each_append (Stood S R) [] As (Bs ++ (Cs ++ (Ds ++ (N.Marked ∷ []))))
      (each-up_to (Stood S R) [] n_a (choice_names S R)
      (λ k l. each-up_to (Stood S R) (up_to k (choice_names S R)) (choices S R k) (λ j. N.Two Choices k j ∷ []) (λ j g. (stood_choice S R formed lawful _ k l j g, tt))))
      (each_append (Stood S R) As Bs (Cs ++ (Ds ++ (N.Marked ∷ [])))
      (each-up_to (Stood S R) As (length S.variables) (value_names S R) (λ i l. ordered_value (As ++ up_to i (value_names S R)) i l))
      (each_append (Stood S R) (As ++ Bs) Cs (Ds ++ (N.Marked ∷ []))
      (each-up_to (Stood S R) (As ++ Bs) (length S.kinds) (event_names S R) (λ e l. ordered_event ((As ++ Bs) ++ up_to e (event_names S R)) e l))
      (each_append (Stood S R) ((As ++ Bs) ++ Cs) Ds (N.Marked ∷ [])
      (each-up_to (Stood S R) ((As ++ Bs) ++ Cs) n_a (mark_names S R) (λ k l. (stood_mark S R formed lawful _ k l, tt)))
      (stood_marked S R formed lawful (((As ++ Bs) ++ Cs) ++ Ds) (λ k l. among-right ((As ++ Bs) ++ Cs) Ds (N.One LocationMarked k) (among-up_to n_a (mark_names S R) k l _ (inl refl))), tt))))
