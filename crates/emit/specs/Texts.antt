-- The text of a model, group by group: what each automaton, variable and event adds to it.
use Rattle.std.specs.Prelude.{ℕ, zero, suc, pred, ◌+◌, cond, not, ◌&&◌, List, [], ◌∷◌, ◌++◌, length, pos, codes, decimal, ◌==◌}
use Rattle.std.proofs.Math.Option.{Option, none, some}
use Rattle.sinks.specs.Text.{each}
use Rattle.expr.specs.Expr.{Expr, term}
use Rattle.clash.specs.Rules.{ClashRule}
use Rattle.system.specs.System.{Transition, Automaton, Variable as Bounded, System}
use Rattle.model_text.specs.declared.words.Single.TheVariants.{Choice, Location, Variable, SettledValue, Permission, PlantsOpen, LocationMarked}
use Rattle.model_text.specs.declared.words.Double.TheVariants.{Transition as Choices, WishStatus, WishValue, JoinedStatus, JoinedValue, Open}
use Rattle.model_text.specs.declared.words.Name.{Name}
use Rattle.model_text.specs.declared.words.Name.TheVariants as N
use Rattle.model_text.specs.declared.words.Constraint.TheVariants.{Start, Step, Always}
use Rattle.model_text.specs.Lists.{up_to}
use Rattle.model_text.specs.Words.{name_text}
use Rattle.model_text.specs.Trees as T
use Rattle.model_text.specs.Lines.{define, constrain, range, line_text}
use Rattle.translation.specs.Systems.{automaton, variable, is_in, is_plant, controlled}
use Rattle.translation.specs.Written.{name, count, number, written, variable_name, join_name, settle_name, is_at, is_not}
use Rattle.translation.specs.Cases.{either_case, wish_case, opening, openings, marked_at}
use Rattle.translation.specs.Translate.{outside, taken, both, either, equal, unmarked_values}

abbrev pub definition_text : Name → T.Tree T.expr → List ℕ
definition_text x e = line_text (define (record { name = x; body = e }))

abbrev pub step_text : T.Tree T.expr → List ℕ
step_text g = line_text (constrain Step g)

-- `TRUE : 1; esac)` ends a case
abbrev pub last_text : ℕ → List ℕ
last_text m = codes "TRUE : " ++ (decimal m ++ codes "; esac)")

-- the definition of a name as a case with these entries, and else a number
abbrev pub case_text : Name → List ℕ → ℕ → List ℕ
case_text x es m = name_text x ++ (codes " := (case " ++ (es ++ (last_text m ++ codes ";\n")))

-- the choices of an automaton: its definitions, its steps, their range
abbrev pub stay_text : ℕ → List ℕ → List ℕ
stay_text k es = definition_text (N.Two Choices k 0) (outside es)

abbrev pub taken_text : ℕ → ℕ → Transition → List ℕ
taken_text k j t = definition_text (N.Two Choices k j) (taken k t)

abbrev pub choices_text : ℕ → Automaton → List ℕ
choices_text k A = stay_text k A.alphabet ++ each (λ j. taken_text k (j + 1)) 0 A.transitions

abbrev pub leads : ℕ → ℕ → T.Tree T.expr → T.Tree T.expr
leads k j to = either (is_not (N.One Choice k) j) (both (name (N.Two Choices k j)) (equal (T.next Location k) to))

abbrev pub lead_text : ℕ → ℕ → Transition → List ℕ
lead_text k j t = step_text (leads k j (count t.to))

abbrev pub leads_text : ℕ → Automaton → List ℕ
leads_text k A = step_text (leads k 0 (name (N.One Location k))) ++ each (λ j. lead_text k (j + 1)) 0 A.transitions

abbrev pub choice_range : ℕ → Automaton → List ℕ
choice_range k A = line_text (range (N.One Choice k) (pos 0) (pos (length A.transitions)))

-- an entry of a case whose value is a count
abbrev pub entry_text : ℕ → T.Tree T.expr → List ℕ
entry_text n g = T.print g ++ (codes " : " ++ (decimal n ++ codes "; "))

-- the wishes of an automaton for variable i: an entry for each choice that updates it
abbrev pub wish_entry : (Expr term → T.Tree T.expr) → ℕ → ℕ → ℕ → Option (Expr term) → List ℕ
wish_entry f i k j none = []
wish_entry f i k j (some e) = T.print (is_at (N.One Choice k) j) ++ (codes " : " ++ (T.print (f e) ++ codes "; "))

abbrev pub status_text : ℕ → ℕ → Automaton → List ℕ
status_text i k A = definition_text (N.Two WishStatus i k) (T.choose (wish_case (λ _. count 1) i k 1 A.transitions))

abbrev pub value_text : ℕ → ℕ → Automaton → List ℕ
value_text i k A = definition_text (N.Two WishValue i k) (T.choose (wish_case (written variable_name) i k 1 A.transitions))

module _ (R : ClashRule) where
  -- the wishes joined, from the first automaton on
  abbrev pub join_text : ℕ → ℕ → List ℕ
  join_text i zero = definition_text (N.Two JoinedStatus i 0) (name (N.Two WishStatus i 0)) ++ definition_text (N.Two JoinedValue i 0) (name (N.Two WishValue i 0))
  join_text i (suc k) = definition_text (N.Two JoinedStatus i (suc k)) (written (join_name i k) R.joined_status) ++ definition_text (N.Two JoinedValue i (suc k)) (written (join_name i k) R.joined_value)

  abbrev pub wishes_text : ℕ → ℕ → Automaton → List ℕ
  wishes_text i k A = status_text i k A ++ (value_text i k A ++ join_text i k)

  abbrev pub settle_text : ℕ → ℕ → List ℕ
  settle_text i k = definition_text (N.One SettledValue i) (written (settle_name i k) R.settled_value) ++ definition_text (N.One Permission i) (written (settle_name i k) R.permission)

  -- all that is defined for a variable
  abbrev pub variable_text : System → ℕ → List ℕ
  variable_text S i = up_to (length S.automata) (λ k. wishes_text i k (automaton S k)) ++ settle_text i (pred (length S.automata))

abbrev pub value_step_text : ℕ → List ℕ
value_step_text i = step_text (both (equal (T.next Variable i) (name (N.One SettledValue i))) (name (N.One Permission i)))

-- an automaton's transitions on an event that are open
abbrev pub open_entry : ℕ → ℕ → Transition → List ℕ
open_entry e k t = cond (t.event == e) (entry_text 1 (opening k t)) []

abbrev pub open_text : ℕ → ℕ → Automaton → List ℕ
open_text e k A = cond (is_in e A.alphabet) (definition_text (N.Two Open e k) (T.choose (either_case 1 0 (openings e k A.transitions)))) []

abbrev pub plant_entry : ℕ → ℕ → Automaton → List ℕ
plant_entry e k A = cond (is_plant A.role && is_in e A.alphabet) (entry_text 0 (is_at (N.Two Open e k) 0)) []

abbrev pub plants_text : System → ℕ → List ℕ
plants_text S e = case_text (N.One PlantsOpen e) (up_to (length S.automata) (λ k. plant_entry e k (automaton S k))) 1

abbrev pub event_text : System → ℕ → List ℕ
event_text S e = cond (controlled S e) (up_to (length S.automata) (λ k. open_text e k (automaton S k)) ++ plants_text S e) []

abbrev pub always_text : ℕ → ℕ → Automaton → List ℕ
always_text e k A =
    cond (not (is_plant A.role) && is_in e A.alphabet) (line_text (constrain Always (either (is_at (N.One PlantsOpen e) 0) (is_at (N.Two Open e k) 1)))) []

abbrev pub event_always_text : System → ℕ → List ℕ
event_always_text S e = cond (controlled S e) (up_to (length S.automata) (λ k. always_text e k (automaton S k))) []

-- the marks
abbrev pub marks_text : ℕ → Automaton → List ℕ
marks_text k A = definition_text (N.One LocationMarked k) (T.choose (either_case 1 0 (marked_at k 0 A.marks)))

abbrev pub unmarked_location : ℕ → Automaton → List ℕ
unmarked_location k A = entry_text 0 (is_at (N.One LocationMarked k) 0)

abbrev pub entries_text : ℕ → List (T.Tree T.expr) → List ℕ
entries_text n [] = []
entries_text n (g ∷ gs) = entry_text n g ++ entries_text n gs

abbrev pub unmarked_value : ℕ → Bounded → List ℕ
unmarked_value i v = entries_text 0 (unmarked_values i v)

-- the start
abbrev pub start_text : ℕ → Automaton → List ℕ
start_text k A = line_text (constrain Start (is_at (N.One Location k) A.start))

abbrev pub value_start_text : ℕ → Bounded → List ℕ
value_start_text i v = line_text (constrain Start (equal (name (variable_name i)) (number v.start)))

-- the ranges
abbrev pub location_range : ℕ → Automaton → List ℕ
location_range k A = line_text (range (N.One Location k) (pos 0) (pos (pred (length A.marks))))

abbrev pub value_range : ℕ → Bounded → List ℕ
value_range i v = line_text (range (N.One Variable i) v.low v.high)

-- the whole text
module _ (S : System) (R : ClashRule) where
  abbrev pub of_automata : (ℕ → Automaton → List ℕ) → List ℕ
  of_automata F = up_to (length S.automata) (λ k. F k (automaton S k))

  abbrev pub of_variables : (ℕ → Bounded → List ℕ) → List ℕ
  of_variables F = up_to (length S.variables) (λ i. F i (variable S i))

  abbrev pub declarations_text : List ℕ
  declarations_text =
      codes "-- rule " ++ (decimal R.number ++ (codes "\nMODULE main\nIVAR\nev : 0.." ++ (decimal (pred (length S.kinds)) ++ (codes ";\n"
      ++ (of_automata choice_range ++ (codes "VAR\n" ++ (of_automata location_range ++ (of_variables value_range ++ codes "DEFINE\n"))))))))

  abbrev pub marked_text : List ℕ
  marked_text = case_text N.Marked (of_automata unmarked_location ++ of_variables unmarked_value) 1

  abbrev pub definitions_text : List ℕ
  definitions_text =
      of_automata choices_text ++ (up_to (length S.variables) (variable_text R S) ++ (up_to (length S.kinds) (event_text S) ++ (of_automata marks_text ++ marked_text)))

  abbrev pub constraints_text : List ℕ
  constraints_text =
      of_automata start_text ++ (of_variables value_start_text ++ (of_automata leads_text ++ (up_to (length S.variables) value_step_text
      ++ (up_to (length S.kinds) (event_always_text S) ++ codes "SPEC AG EF (mk = 1);\n"))))

  abbrev pub whole_text : List ℕ
  whole_text = declarations_text ++ (definitions_text ++ constraints_text)
