-- How many definitions and other lines the model of a system has.
use Rattle.std.proofs.Common.{◌≡◌, ℕ, zero, suc, ◌<◌, ◌≤◌, List, [], ◌∷◌, ◌++◌, map, length, get_or, ap, inl, inr, arith, lit≤}
use Rattle.std.proofs.lemmas.List.{length-append, length-map}
use Rattle.std.proofs.lemmas.Bool.{cond_both, cases_order}
use Rattle.clash.specs.Rules.{ClashRule}
use Rattle.system.specs.System.{Transition, Automaton, System, Row, idle, rows_from}
use Rattle.system.specs.Formed.{WellFormed}
use Rattle.model_text.specs.declared.words.Single.TheVariants.{SettledValue, Permission, PlantsOpen}
use Rattle.model_text.specs.declared.words.Double.TheVariants.{Transition as Choices, Open}
use Rattle.model_text.specs.declared.words.Name.TheVariants as N
use Rattle.model_text.specs.Lists.{up_to}
use Rattle.translation.specs.Systems.{automaton, is_in, specification_with, controlled}
use Rattle.translation.specs.Cases.{only_if}
use Rattle.translation.specs.Translate.{choices, choice_names, wish_names, value_names, open_names, event_names, mark_names, names, choice_step, value_step, location_start, value_start, controllable, event_always, model_of}
use Rattle.translation.proofs.Indexed.{only_if_lem, length_up_to, sum_to, sum_to_first, length_sum_to}

-- the transitions of all automata, counted automaton by automaton
rows-sum : (j : ℕ) (As : List Automaton) → length (rows_from j As) ≡ sum_to (length As) (λ k. length (get_or As k idle).transitions)
rows-sum j [] = omega arith
rows-sum j (A ∷ As) =
    let row : Transition → Row = λ t. record { owner = j; transition = t } in
    let a = length-append (map row A.transitions) (rows_from (suc j) As) in
    let b = length-map A.transitions row in
    let c = rows-sum (suc j) As in
    let d = sum_to_first (length As) (λ k. length (get_or (A ∷ As) k idle).transitions) in
    omega arith

sum_to_one : (n : ℕ) (g : ℕ → ℕ) (k : ℕ) → k < n → g k ≤ sum_to n g
sum_to_one zero g k l = absurd (let z : ⊥ = omega arith in z)
sum_to_one (suc n) g k l =
    elim (cases_order k n) [
      | inl e ↦ omega (arith, ap g e)
      | inr (inl e) ↦ omega (arith, sum_to_one n g k e)
      | inr (inr e) ↦ omega arith
    ]

one_each : {A : Type 0} (n : ℕ) (f : ℕ → A) → length (up_to n (λ j. f j ∷ [])) ≤ n
one_each n f = let h = length_up_to n 1 (λ j. f j ∷ []) (λ j _. lit≤ tt) in omega arith

module _ (S : System) (R : ClashRule) (formed : WellFormed S) where
  abbrev n_a : ℕ
  n_a = length S.automata

  all_transitions : sum_to n_a (λ k. length (automaton S k).transitions) ≤ 512
  all_transitions = omega (arith, rows-sum 0 S.automata, formed.few_transitions)

  pub few_transitions : (k : ℕ) → k < n_a → length (automaton S k).transitions ≤ 512
  few_transitions k l = let a = sum_to_one n_a (λ k. length (automaton S k).transitions) k l in omega (arith, all_transitions)

  value_count : (i : ℕ) → length (value_names S R i) ≤ 50
  value_count i =
      let a = length-append (up_to n_a (wish_names S R i)) (N.One SettledValue i ∷ (N.One Permission i ∷ [])) in
      let b = length_up_to n_a 4 (wish_names S R i) (λ k _. lit≤ tt) in
      let c = formed.few_automata in
      omega arith

  event_count : (e : ℕ) → length (event_names S R e) ≤ 13
  event_count e =
      let F = open_names S R e in
      let a = length-append (up_to n_a F) (N.One PlantsOpen e ∷ []) in
      let b = length_up_to n_a 1 F (λ k _. only_if_lem (λ xs. length xs ≤ 1) (is_in e (automaton S k).alphabet) (N.Two Open e k) (lit≤ tt) (λ _. lit≤ tt)) in
      let c = formed.few_automata in
      cond_both (controlled S e) (up_to n_a F ++ (N.One PlantsOpen e ∷ [])) [] (λ xs. length xs ≤ 13) (λ _. omega arith) (λ _. lit≤ tt)

  pub few_names : length (names S R) ≤ 2048
  few_names =
      let As = up_to n_a (choice_names S R) in
      let Bs = up_to (length S.variables) (value_names S R) in
      let Cs = up_to (length S.kinds) (event_names S R) in
      let Ds = up_to n_a (mark_names S R) in
      let a = length_sum_to n_a (choice_names S R) (λ k. length (automaton S k).transitions) (λ k. one_each (choices S R k) (N.Two Choices k)) in
      let b = length_up_to (length S.variables) 50 (value_names S R) (λ i _. value_count i) in
      let c = length_up_to (length S.kinds) 13 (event_names S R) (λ e _. event_count e) in
      let d = length_up_to n_a 1 (mark_names S R) (λ k _. lit≤ tt) in
      let e = length-append As (Bs ++ (Cs ++ (Ds ++ (N.Marked ∷ [])))) in
      let f = length-append Bs (Cs ++ (Ds ++ (N.Marked ∷ []))) in
      let g = length-append Cs (Ds ++ (N.Marked ∷ [])) in
      let h = length-append Ds (N.Marked ∷ []) in
      omega (arith, all_transitions, formed.few_automata, formed.few_variables, formed.events)

  pub few_starts : length (model_of S R).starts ≤ 24
  few_starts =
      let As = up_to n_a (λ k. location_start S R k ∷ []) in
      let Vs = up_to (length S.variables) (λ i. value_start S R i ∷ []) in
      let a = length-append As Vs in
      let b = one_each n_a (location_start S R) in
      let c = one_each (length S.variables) (value_start S R) in
      omega (arith, formed.few_automata, formed.few_variables)

  pub few_steps : length (model_of S R).steps ≤ 536
  few_steps =
      let f = λ (k : ℕ). up_to (choices S R k) (λ j. choice_step S R k j ∷ []) in
      let Vs = up_to (length S.variables) (λ i. value_step S R i ∷ []) in
      let a = length-append (up_to n_a f) Vs in
      let b = length_sum_to n_a f (λ k. length (automaton S k).transitions) (λ k. one_each (choices S R k) (choice_step S R k)) in
      let c = one_each (length S.variables) (value_step S R) in
      omega (arith, all_transitions, formed.few_automata, formed.few_variables)

  pub few_always : length (model_of S R).always ≤ 768
  few_always =
      let f = λ (e k : ℕ). only_if (specification_with S e k) (controllable S R e k) in
      let a = length_up_to (length S.kinds) 12 (event_always S R)
      (λ e _. let b = length_up_to n_a 1 (f e) (λ k _. only_if_lem (λ xs. length xs ≤ 1) (specification_with S e k) (controllable S R e k) (lit≤ tt) (λ _. lit≤ tt)) in
      let c = formed.few_automata in
      cond_both (controlled S e) (up_to n_a (f e)) [] (λ xs. length xs ≤ 12) (λ _. omega arith) (λ _. lit≤ tt)) in
      omega (arith, formed.events)
