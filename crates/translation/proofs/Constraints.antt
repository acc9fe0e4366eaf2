-- The starts, the steps and the checks of a system's model keep what a text asks.
use Rattle.std.proofs.Common.{◌≡◌, ℕ, zero, suc, ◌<◌, ◌≤◌, true, not, List, [], ◌∷◌, ◌++◌, length, refl, inl, inr, arith, lit≤}
use Rattle.std.proofs.lemmas.Int.{ints}
use Rattle.std.proofs.lemmas.Bool.{and_parts, cond_both}
use Rattle.expr.specs.declared.code.Joint.TheVariants.{And, Or}
use Rattle.expr.specs.declared.code.Order.TheVariants.{Eq, Ne}
use Rattle.clash.specs.Rules.{ClashRule}
use Rattle.system.specs.System.{System}
use Rattle.system.specs.Formed.{All, TransitionFormed, WellFormed}
use Rattle.system.proofs.Eaches.{all_append}
use Rattle.model_text.specs.declared.words.Kind.TheVariants.{Guard, Term}
use Rattle.model_text.specs.declared.words.Single.TheVariants.{Location, Variable, SettledValue, Permission, PlantsOpen}
use Rattle.model_text.specs.declared.words.Double.TheVariants.{Transition as Choices, Open}
use Rattle.model_text.specs.declared.words.Name.{Name}
use Rattle.model_text.specs.declared.words.Name.TheVariants as N
use Rattle.model_text.specs.Lists.{up_to}
use Rattle.model_text.specs.Trees as T
use Rattle.model_text.specs.Scopes.{Place, of-state, of-step, Among}
use Rattle.translation.specs.Systems.{automaton, variable, idle_transition, is_plant, is_in, specification_with, controlled}
use Rattle.translation.specs.Translate.{choices, choice_names, wish_names, value_names, open_names, event_names, mark_names, names, target, choice_step, value_step, location_start, value_start, controllable, event_always, model_of}
use Rattle.translation.proofs.Indexed.{only_if_lem, all_at, all_up_to, among-left, among-right, among-up_to}
use Rattle.translation.proofs.Fine.{Fine, fine_more, fine_name, fine_count, fine_number, fine_next, fine_join, fine_test, fine_compared}
use Rattle.translation.proofs.Counts.{few_transitions}
use Rattle.translation.proofs.Parts.{Here, above, small_value, automaton_formed, variable_formed, good_automaton, good_variable, good_event, choice_usable, location_usable, variable_usable}
use Rattle.translation.proofs.Ordered.{among-only-if}

module _ (S : System) (R : ClashRule) where
  abbrev n_a : ℕ
  n_a = length S.automata

  abbrev As : List Name
  As = up_to n_a (choice_names S R)

  abbrev Bs : List Name
  Bs = up_to (length S.variables) (value_names S R)

  abbrev Cs : List Name
  Cs = up_to (length S.kinds) (event_names S R)

  abbrev Ds : List Name
  Ds = up_to n_a (mark_names S R)

  -- where all definitions are known
  abbrev pub Said : Place → T.Tree T.expr → Type 0
  Said p g = Fine (Here S (names S R) p) p 24 16000000 Guard g

  among_choice : (k j : ℕ) → k < n_a → j < choices S R k → Among (names S R) (N.Two Choices k j)
  among_choice k j l h = among-left As (Bs ++ (Cs ++ (Ds ++ (N.Marked ∷ [])))) _ (among-up_to n_a (choice_names S R) k l _ (among-up_to (choices S R k) (λ j. N.Two Choices k j ∷ []) j h _ (inl refl)))

  among_value : (i : ℕ) → i < length S.variables → (x : Name) → Among (N.One SettledValue i ∷ (N.One Permission i ∷ [])) x → Among (names S R) x
  among_value i l x h =
      among-right As (Bs ++ (Cs ++ (Ds ++ (N.Marked ∷ [])))) x
      (among-left Bs (Cs ++ (Ds ++ (N.Marked ∷ []))) x
      (among-up_to (length S.variables) (value_names S R) i l x (among-right (up_to n_a (wish_names S R i)) (N.One SettledValue i ∷ (N.One Permission i ∷ [])) x h)))

  among_event : (e : ℕ) → e < length S.kinds → controlled S e ≡ true → (x : Name) → Among (up_to n_a (open_names S R e) ++ (N.One PlantsOpen e ∷ [])) x → Among (names S R) x
  among_event e l c x h =
      among-right As (Bs ++ (Cs ++ (Ds ++ (N.Marked ∷ [])))) x
      (among-right Bs (Cs ++ (Ds ++ (N.Marked ∷ []))) x
      (among-left Cs (Ds ++ (N.Marked ∷ [])) x (among-up_to (length S.kinds) (event_names S R) e l x (rw c h))))

  among_marked : Among (names S R) N.Marked
  among_marked = among-right As (Bs ++ (Cs ++ (Ds ++ (N.Marked ∷ [])))) _ (among-right Bs (Cs ++ (Ds ++ (N.Marked ∷ []))) _ (among-right Cs (Ds ++ (N.Marked ∷ [])) _ (among-right Ds (N.Marked ∷ []) _ (inl refl))))

  pub said_reachable : Said of-state (model_of S R).reachable
  said_reachable = fine_more (fine_compared Eq (above S (names S R) of-state N.Marked among_marked refl refl tt) (lit≤ tt)) (lit≤ tt) (lit≤ tt)

  module _ (formed : WellFormed S) where
    said_location : (k : ℕ) → k < n_a → Said of-state (location_start S R k)
    said_location k l =
        let head = (automaton_formed S formed k l).head in
        fine_more (fine_compared Eq (location_usable S formed (names S R) of-state k l refl) (omega (arith, head.start, head.locations))) (lit≤ tt) (lit≤ tt)

    said_variable : (i : ℕ) → i < length S.variables → Said of-state (value_start S R i)
    said_variable i l =
        let v = variable_formed S formed i l in
        fine_more
        (fine_test Eq (fine_name (variable_usable S formed (names S R) of-state i l refl)) (fine_number (variable S i).start (small_value (variable S i).start (omega (arith, ints, v.bottom, v.start_low)) (omega (arith, ints, v.start_high, v.top)))))
        (lit≤ tt)
        (lit≤ tt)

    pub said_starts : All (Said of-state) (model_of S R).starts
    said_starts =
        all_append (Said of-state) (up_to n_a (λ k. location_start S R k ∷ [])) (up_to (length S.variables) (λ i. value_start S R i ∷ []))
        (all_up_to (Said of-state) n_a _ (λ k l. (said_location k l, tt))) (all_up_to (Said of-state) (length S.variables) _ (λ i l. (said_variable i l, tt)))

    said_target : (k : ℕ) → k < n_a → (j : ℕ) → j < choices S R k → Fine (Here S (names S R) of-step) of-step 0 8 Term (target S R k j)
    said_target k l zero h = fine_name (location_usable S formed (names S R) of-step k l tt)
    said_target k l (suc j) h =
        let parts = automaton_formed S formed k l in
        let inside : j < length (automaton S k).transitions = omega arith in
        let t = all_at (TransitionFormed (length S.kinds) (length S.variables) (automaton S k)) (automaton S k).transitions parts.transitions j idle_transition inside in
        fine_more (fine_count (omega (arith, t.to, parts.head.locations))) (lit≤ tt) (lit≤ tt)

    said_choice : (k : ℕ) → k < n_a → (j : ℕ) → j < choices S R k → Said of-step (choice_step S R k j)
    said_choice k l j h =
        let few = few_transitions S R formed k l in
        let here = location_usable S formed (names S R) of-step k l tt in
        let small : j ≤ 512 = omega arith in
        fine_more
        (fine_join Or (fine_compared Ne (choice_usable S formed (names S R) of-step k l tt) (omega arith))
        (fine_join And (fine_name (above S (names S R) of-step (N.Two Choices k j) (among_choice k j l h) tt refl (good_automaton S formed k l, omega arith)))
        (fine_test Eq (fine_next Location k tt (good_automaton S formed k l) tt here.known) (said_target k l j h))))
        (lit≤ tt)
        (lit≤ tt)

    said_value : (i : ℕ) → i < length S.variables → Said of-step (value_step S R i)
    said_value i l =
        let good = good_variable S formed i l in
        fine_more
        (fine_join And
        (fine_test Eq (fine_next Variable i tt good tt (variable_usable S formed (names S R) of-step i l tt).known) (fine_name (above S (names S R) of-step (N.One SettledValue i) (among_value i l _ (inl refl)) tt refl good)))
        (fine_name (above S (names S R) of-step (N.One Permission i) (among_value i l _ (inr (inl refl))) tt refl good)))
        (lit≤ tt)
        (lit≤ tt)

    pub said_steps : All (Said of-step) (model_of S R).steps
    said_steps =
        all_append (Said of-step) (up_to n_a (λ k. up_to (choices S R k) (λ j. choice_step S R k j ∷ []))) (up_to (length S.variables) (λ i. value_step S R i ∷ []))
        (all_up_to (Said of-step) n_a _ (λ k l. all_up_to (Said of-step) (choices S R k) _ (λ j h. (said_choice k l j h, tt))))
        (all_up_to (Said of-step) (length S.variables) _ (λ i l. (said_value i l, tt)))

    said_controllable : (e : ℕ) → e < length S.kinds → controlled S e ≡ true → (k : ℕ) → k < n_a → specification_with S e k ≡ true → Said of-state (controllable S R e k)
    said_controllable e h c k l g =
        let F = open_names S R e in
        let P : List Name = N.One PlantsOpen e ∷ [] in
        let inside = (and_parts (not (is_plant (automaton S k).role)) (is_in e (automaton S k).alphabet) g).1 in
        let opened = among_event e h c (N.Two Open e k) (among-left (up_to n_a F) P _ (among-up_to n_a F k l _ (among-only-if (is_in e (automaton S k).alphabet) (N.Two Open e k) inside))) in
        fine_more
        (fine_join Or (fine_compared Eq (above S (names S R) of-state (N.One PlantsOpen e) (among_event e h c _ (among-right (up_to n_a F) P _ (inl refl))) refl refl (good_event S formed e h)) (lit≤ tt))
        (fine_compared Eq (above S (names S R) of-state (N.Two Open e k) opened refl refl (good_event S formed e h, good_automaton S formed k l)) (lit≤ tt)))
        (lit≤ tt)
        (lit≤ tt)

    pub said_always : All (Said of-state) (model_of S R).always
    said_always =
        all_up_to (Said of-state) (length S.kinds) (event_always S R)
        (λ e h. cond_both (controlled S e) (up_to n_a _) [] (All (Said of-state))
        (λ c. all_up_to (Said of-state) n_a _ (λ k l. only_if_lem (All (Said of-state)) (specification_with S e k) (controllable S R e k) tt (λ g. (said_controllable e h c k l g, tt))))
        (λ _. tt))
