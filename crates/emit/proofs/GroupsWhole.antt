-- The groups one after another are the text of the model.
use Rattle.std.proofs.Common.{◌≡◌, ℕ, zero, suc, pred, Bool, true, false, cond, List, [], ◌∷◌, ◌++◌, map, length, get_or, pos, codes, decimal, refl, ap, ◌∙◌, append_assoc, append-nil, arith}
use Rattle.std.specs.List.{flat_map}
use Rattle.std.proofs.lemmas.Fmt.{decimal_digit}
use Rattle.clash.specs.Rules.{ClashRule}
use Rattle.system.specs.System.{Automaton, System, idle}
use Rattle.model_text.specs.declared.words.Heading.TheVariants.{Module, Inputs, State, Definitions}
use Rattle.model_text.specs.declared.words.Constraint.{Constraint}
use Rattle.model_text.specs.declared.words.Constraint.TheVariants.{Start, Step, Always, Reachable}
use Rattle.model_text.specs.declared.words.Single.TheVariants.{Choice, Location, Variable, SettledValue, Permission, PlantsOpen, LocationMarked}
use Rattle.model_text.specs.declared.words.Single.{Single}
use Rattle.model_text.specs.declared.words.Double.TheVariants.{Transition as Choices}
use Rattle.model_text.specs.declared.words.Name.{Name}
use Rattle.model_text.specs.declared.words.Name.TheVariants as N
use Rattle.model_text.specs.Lists.{up_to}
use Rattle.model_text.specs.Trees as T
use Rattle.model_text.specs.Lines.{Line, rule, heading, range, define, constrain, line_text}
use Rattle.model_text.specs.Models.{count_ranges, value_ranges, no_span, span_range, declarations, text}
use Rattle.translation.specs.Systems.{automaton, zero_variable, idle_transition, span, ranges}
use Rattle.translation.specs.Cases.{only_if}
use Rattle.translation.specs.Translate as M
use Rattle.emit.specs.Texts as Texts
use Rattle.emit.specs.Texts.{entries_text, last_text}
use Rattle.emit.specs.Whole.{GroupsAreWhole}
use Rattle.emit.proofs.Sent.{joined-append, joined-up_to}
use Rattle.emit.proofs.ByIndex.{joined-map, joined_by, joined-ones, up_to_map, first-each}
use Rattle.emit.proofs.CaseTexts.{case_definition, entries_append, entries_up_to, entries_only_if}

abbrev lines_text : List Line → List ℕ
lines_text ls = flat_map line_text ls

declared : (n e : ℕ) (cs ls vs : List Line) (choices locations values : List ℕ) → lines_text cs ≡ choices → lines_text ls ≡ locations → lines_text vs ≡ values
    → lines_text (rule n ∷ (heading Module ∷ (heading Inputs ∷ (range N.Event (pos 0) (pos e) ∷ (cs ++ (heading State ∷ (ls ++ (vs ++ (heading Definitions ∷ [])))))))))
    ≡ codes "-- rule " ++ (decimal n ++ (codes "\nMODULE main\nIVAR\nev : 0.." ++ (decimal e ++ (codes ";\n"
    ++ (choices ++ (codes "VAR\n" ++ (locations ++ (values ++ codes "DEFINE\n"))))))))
declared n e cs ls vs choices locations values p q r = simp (joined-append, append_assoc, decimal_digit 0 (omega arith), p, q, r)

counts : (x : Single) (f : Automaton → ℕ) (S : System) → lines_text (count_ranges x (map f S.automata)) ≡ up_to (length S.automata) (λ k. line_text (range (N.One x k) (pos 0) (pos (f (automaton S k)))))
counts x f S =
    joined-ones line_text (length (map f S.automata)) (λ k. range (N.One x k) (pos 0) (pos (get_or (map f S.automata) k 0)))
    ∙ up_to_map f S.automata idle 0 (λ k n. line_text (range (N.One x k) (pos 0) (pos n)))

spans : (S : System) (R : ClashRule) → lines_text (value_ranges (ranges S).values) ≡ Texts.of_variables S R Texts.value_range
spans S R =
    joined-ones line_text (length (ranges S).values) (span_range (ranges S).values)
    ∙ up_to_map span S.variables zero_variable no_span (λ i v. line_text (range (N.One Variable i) v.low v.high))

declarations-same : (S : System) (R : ClashRule) → lines_text (declarations R.number (ranges S)) ≡ Texts.declarations_text S R
declarations-same S R =
    declared R.number (ranges S).events (count_ranges Choice (ranges S).choices) (count_ranges Location (ranges S).locations) (value_ranges (ranges S).values) _ _ _
    (counts Choice (λ A. length A.transitions) S) (counts Location (λ A. pred (length A.marks)) S) (spans S R)

joined-cond : {X A : Type 0} (f : X → List A) (b : Bool) (xs : List X) → flat_map f (cond b xs []) ≡ cond b (flat_map f xs) []
joined-cond f true xs = refl
joined-cond f false xs = refl

joined-only_if : {X A : Type 0} (f : X → List A) (b : Bool) (x : X) → flat_map f (only_if b x) ≡ cond b (f x) []
joined-only_if f true x = append-nil (f x)
joined-only_if f false x = refl

joined-five : {X A : Type 0} (f : X → List A) (a b c d e : List X) → flat_map f (a ++ (b ++ (c ++ (d ++ e)))) ≡ flat_map f a ++ (flat_map f b ++ (flat_map f c ++ (flat_map f d ++ flat_map f e)))
joined-five f a b c d e = simp joined-append

regroup : (a b c d e : List ℕ) → (a ++ b) ++ ((c ++ d) ++ e) ≡ a ++ (b ++ (c ++ (d ++ e)))
regroup a b c d e = simp append_assoc

module _ (S : System) (R : ClashRule) where
  abbrev said : Name → List ℕ
  said x = line_text (define (M.defined S R x))

  choices_same : (k : ℕ) → flat_map said (M.choice_names S R k) ≡ Texts.choices_text k (automaton S k)
  choices_same k =
      joined-ones said (M.choices S R k) (N.Two Choices k)
      ∙ first-each (λ j. said (N.Two Choices k j)) (Texts.taken_text k) (automaton S k).transitions idle_transition (λ j. refl)

  wishes_same : (i k : ℕ) → flat_map said (M.wish_names S R i k) ≡ Texts.wishes_text R i k (automaton S k)
  wishes_same i zero = simp append-nil
  wishes_same i (suc k) = simp append-nil

  values_same : (i : ℕ) → flat_map said (M.value_names S R i) ≡ Texts.variable_text R S i
  values_same i =
      joined-append said (up_to (M.automata S R) (M.wish_names S R i)) (N.One SettledValue i ∷ (N.One Permission i ∷ []))
      ∙ (λ l. joined_by said (M.automata S R) (M.wish_names S R i) (wishes_same i) l ++ (said (N.One SettledValue i) ++ append-nil (said (N.One Permission i)) l))

  plants_same : (e : ℕ) → said (N.One PlantsOpen e) ≡ Texts.plants_text S e
  plants_same e = case_definition 0 (N.One PlantsOpen e) 1 (M.shut_plants S R e) _ (simp (entries_up_to, entries_only_if))

  events_same : (e : ℕ) → flat_map said (M.event_names S R e) ≡ Texts.event_text S e
  events_same e = simp (joined-cond, joined-append, joined-up_to, joined-only_if, append-nil, plants_same)

  marked_same : said N.Marked ≡ Texts.marked_text S R
  marked_same = case_definition 0 N.Marked 1 (M.unmarked S R) _ (simp (entries_append, entries_up_to, append-nil))

  definitions_same : lines_text (map define (map (M.defined S R) (M.names S R))) ≡ Texts.definitions_text S R
  definitions_same =
      joined-map line_text define (map (M.defined S R) (M.names S R))
      ∙ joined-map (λ d. line_text (define d)) (M.defined S R) (M.names S R)
      ∙ joined-five said (up_to (M.automata S R) (M.choice_names S R)) (up_to (length S.variables) (M.value_names S R)) (up_to (length S.kinds) (M.event_names S R)) (up_to (M.automata S R) (M.mark_names S R)) (N.Marked ∷ [])
      ∙ (λ l. joined_by said (M.automata S R) (M.choice_names S R) choices_same l
      ++ (joined_by said (length S.variables) (M.value_names S R) values_same l
      ++ (joined_by said (length S.kinds) (M.event_names S R) events_same l
      ++ (joined-ones said (M.automata S R) (N.One LocationMarked) l ++ (append-nil (said N.Marked) ∙ marked_same) l))))

  abbrev limits : Constraint → List (T.Tree T.expr) → List ℕ
  limits c gs = lines_text (map (constrain c) gs)

  starts_same : limits Start (M.model_of S R).starts ≡ Texts.of_automata S R Texts.start_text ++ Texts.of_variables S R Texts.value_start_text
  starts_same = simp (joined-map, joined-append, joined-up_to, append-nil)

  leads_same : (k : ℕ) → flat_map Texts.step_text (up_to (M.choices S R k) (λ j. M.choice_step S R k j ∷ [])) ≡ Texts.leads_text k (automaton S k)
  leads_same k =
      joined-ones Texts.step_text (M.choices S R k) (M.choice_step S R k)
      ∙ first-each (λ j. Texts.step_text (M.choice_step S R k j)) (Texts.lead_text k) (automaton S k).transitions idle_transition (λ j. refl)

  steps_same : limits Step (M.model_of S R).steps ≡ Texts.of_automata S R Texts.leads_text ++ up_to (length S.variables) Texts.value_step_text
  steps_same =
      let leads : ℕ → List (T.Tree T.expr) = λ k. up_to (M.choices S R k) (λ j. M.choice_step S R k j ∷ []) in
      joined-map line_text (constrain Step) (M.model_of S R).steps
      ∙ joined-append Texts.step_text (up_to (M.automata S R) leads) (up_to (length S.variables) (λ i. M.value_step S R i ∷ []))
      ∙ (λ l. joined_by Texts.step_text (M.automata S R) leads leads_same l ++ joined-ones Texts.step_text (length S.variables) (M.value_step S R) l)

  always_same : limits Always (M.model_of S R).always ≡ up_to (length S.kinds) (Texts.event_always_text S)
  always_same = simp (joined-map, joined-up_to, joined-cond, joined-only_if)

  reachable_same : limits Reachable ((M.model_of S R).reachable ∷ []) ≡ codes "SPEC AG EF (mk = 1);\n"
  reachable_same = simp (decimal_digit 1 (omega arith))

  groups_same : text (M.model_of S R) ≡ Texts.whole_text S R
  groups_same =
      let model = M.model_of S R in
      joined-append line_text (declarations R.number (ranges S)) _
      ∙ ap (λ z. lines_text (declarations R.number (ranges S)) ++ z)
      (joined-five line_text (map define model.definitions) (map (constrain Start) model.starts) (map (constrain Step) model.steps) (map (constrain Always) model.always) (constrain Reachable model.reachable ∷ []))
      ∙ (λ l. declarations-same S R l ++ (definitions_same l ++ (starts_same l ++ (steps_same l ++ (always_same l ++ reachable_same l)))))
      ∙ ap (λ z. Texts.declarations_text S R ++ (Texts.definitions_text S R ++ z))
      (regroup (Texts.of_automata S R Texts.start_text) (Texts.of_variables S R Texts.value_start_text) (Texts.of_automata S R Texts.leads_text) (up_to (length S.variables) Texts.value_step_text) _)

pub groups_whole : GroupsAreWhole
groups_whole = groups_same
