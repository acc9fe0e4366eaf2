-- The model of a system under a clash rule: which names are defined, in which order, and what each says.
use Rattle.std.specs.Prelude.{ℕ, zero, suc, pred, true, cond, List, [], ◌∷◌, ◌++◌, map, length}
use Rattle.expr.specs.declared.code.Joint.TheVariants.{And, Or}
use Rattle.expr.specs.declared.code.Order.TheVariants.{Eq, Lt}
use Rattle.clash.specs.Rules.{ClashRule}
use Rattle.system.specs.System.{Transition, Variable as Bounded, System}
use Rattle.model_text.specs.declared.words.Operator.TheVariants.{Join, Test}
use Rattle.model_text.specs.declared.words.Single.TheVariants.{Choice, Location, Variable, SettledValue, Permission, PlantsOpen, LocationMarked}
use Rattle.model_text.specs.declared.words.Double.TheVariants.{Transition as Choices, WishStatus, WishValue, JoinedStatus, JoinedValue, Open}
use Rattle.model_text.specs.declared.words.Name.{Name}
use Rattle.model_text.specs.declared.words.Name.TheVariants as N
use Rattle.model_text.specs.declared.words.Word.TheVariants as W
use Rattle.model_text.specs.Lists.{up_to}
use Rattle.model_text.specs.Trees as T
use Rattle.model_text.specs.Lines.{Definition}
use Rattle.model_text.specs.Models.{Model}
use Rattle.translation.specs.Systems.{automaton, variable, transition, is_in, plant_with, specification_with, controlled, ranges}
use Rattle.translation.specs.Written.{name, count, number, written, variable_name, join_name, settle_name, is_at, is_not}
use Rattle.translation.specs.Cases.{either_case, only_if, wish_case, openings, marked_at}

abbrev pub both : T.Tree T.expr → T.Tree T.expr → T.Tree T.expr
both a b = T.binary (Join And) a b

abbrev pub either : T.Tree T.expr → T.Tree T.expr → T.Tree T.expr
either a b = T.binary (Join Or) a b

abbrev pub equal : T.Tree T.expr → T.Tree T.expr → T.Tree T.expr
equal a b = T.binary (Test Eq) a b

abbrev pub less : T.Tree T.expr → T.Tree T.expr → T.Tree T.expr
less a b = T.binary (Test Lt) a b

-- none of the events, bracketed to the left
abbrev pub none_of : T.Tree T.expr → List ℕ → T.Tree T.expr
none_of g [] = g
none_of g (e ∷ es) = none_of (both g (is_not N.Event e)) es

-- the event is outside the alphabet
abbrev pub outside : List ℕ → T.Tree T.expr
outside [] = T.word (W.Truth true)
outside (e ∷ es) = none_of (is_not N.Event e) es

-- the automaton is where the transition begins, its event happens, and its guard holds
abbrev pub taken : ℕ → Transition → T.Tree T.expr
taken k t = both (both (is_at (N.One Location k) t.from) (is_at N.Event t.event)) (written variable_name t.guard)

-- the values at which a variable is not marked
abbrev pub unmarked_values : ℕ → Bounded → List (T.Tree T.expr)
unmarked_values i v = less (name (variable_name i)) (number v.marked_low) ∷ (less (number v.marked_high) (name (variable_name i)) ∷ [])

module _ (S : System) (R : ClashRule) where
  abbrev pub automata : ℕ
  automata = length S.automata

  abbrev pub transitions : ℕ → List Transition
  transitions k = (automaton S k).transitions

  -- the number of choices of an automaton, 0 included
  abbrev pub choices : ℕ → ℕ
  choices k = suc (length (transitions k))

  abbrev pub last_automaton : ℕ
  last_automaton = pred automata

  -- the plants with the event that have no open transition on it
  abbrev pub shut_plants : ℕ → List (T.Tree T.expr)
  shut_plants e = up_to automata (λ k. only_if (plant_with S e k) (is_at (N.Two Open e k) 0))

  abbrev pub unmarked : List (T.Tree T.expr)
  unmarked =
      up_to automata (λ k. is_at (N.One LocationMarked k) 0 ∷ [])
      ++ up_to (length S.variables) (λ i. unmarked_values i (variable S i))

  -- what each name says
  abbrev pub body : Name → T.Tree T.expr
  body N.Event = name N.Event
  body N.Marked = T.choose (either_case 0 1 unmarked)
  body (N.One Choice k) = name (N.One Choice k)
  body (N.One Location k) = name (N.One Location k)
  body (N.One Variable i) = name (N.One Variable i)
  body (N.One SettledValue i) = written (settle_name i last_automaton) R.settled_value
  body (N.One Permission i) = written (settle_name i last_automaton) R.permission
  body (N.One PlantsOpen e) = T.choose (either_case 0 1 (shut_plants e))
  body (N.One LocationMarked k) = T.choose (either_case 1 0 (marked_at k 0 (automaton S k).marks))
  body (N.Two Choices k zero) = outside (automaton S k).alphabet
  body (N.Two Choices k (suc j)) = taken k (transition (transitions k) j)
  body (N.Two WishStatus i k) = T.choose (wish_case (λ _. count 1) i k 1 (transitions k))
  body (N.Two WishValue i k) = T.choose (wish_case (written variable_name) i k 1 (transitions k))
  body (N.Two JoinedStatus i zero) = name (N.Two WishStatus i 0)
  body (N.Two JoinedStatus i (suc k)) = written (join_name i k) R.joined_status
  body (N.Two JoinedValue i zero) = name (N.Two WishValue i 0)
  body (N.Two JoinedValue i (suc k)) = written (join_name i k) R.joined_value
  body (N.Two Open e k) = T.choose (either_case 1 0 (openings e k (transitions k)))

  abbrev pub choice_names : ℕ → List Name
  choice_names k = up_to (choices k) (λ j. N.Two Choices k j ∷ [])

  abbrev pub wish_names : ℕ → ℕ → List Name
  wish_names i k = N.Two WishStatus i k ∷ (N.Two WishValue i k ∷ (N.Two JoinedStatus i k ∷ (N.Two JoinedValue i k ∷ [])))

  abbrev pub value_names : ℕ → List Name
  value_names i = up_to automata (wish_names i) ++ (N.One SettledValue i ∷ (N.One Permission i ∷ []))

  abbrev pub open_names : ℕ → ℕ → List Name
  open_names e k = only_if (is_in e (automaton S k).alphabet) (N.Two Open e k)

  abbrev pub event_names : ℕ → List Name
  event_names e = cond (controlled S e) (up_to automata (open_names e) ++ (N.One PlantsOpen e ∷ [])) []

  abbrev pub mark_names : ℕ → List Name
  mark_names k = N.One LocationMarked k ∷ []

  -- the names that are defined, in their order
  abbrev pub names : List Name
  names =
      up_to automata choice_names
      ++ (up_to (length S.variables) value_names
      ++ (up_to (length S.kinds) event_names
      ++ (up_to automata mark_names ++ (N.Marked ∷ []))))

  abbrev pub defined : Name → Definition
  defined x = record { name = x; body = body x }

  -- where a choice leads
  abbrev pub target : ℕ → ℕ → T.Tree T.expr
  target k zero = name (N.One Location k)
  target k (suc j) = count (transition (transitions k) j).to

  abbrev pub choice_step : ℕ → ℕ → T.Tree T.expr
  choice_step k j = either (is_not (N.One Choice k) j) (both (name (N.Two Choices k j)) (equal (T.next Location k) (target k j)))

  abbrev pub value_step : ℕ → T.Tree T.expr
  value_step i = both (equal (T.next Variable i) (name (N.One SettledValue i))) (name (N.One Permission i))

  abbrev pub location_start : ℕ → T.Tree T.expr
  location_start k = is_at (N.One Location k) (automaton S k).start

  abbrev pub value_start : ℕ → T.Tree T.expr
  value_start i = equal (name (variable_name i)) (number (variable S i).start)

  -- if every plant with the event is open on it, so is the specification
  abbrev pub controllable : ℕ → ℕ → T.Tree T.expr
  controllable e k = either (is_at (N.One PlantsOpen e) 0) (is_at (N.Two Open e k) 1)

  abbrev pub event_always : ℕ → List (T.Tree T.expr)
  event_always e = cond (controlled S e) (up_to automata (λ k. only_if (specification_with S e k) (controllable e k))) []

  abbrev pub model_of : Model
  model_of = record {
    rule = R.number;
    ranges = ranges S;
    definitions = map defined names;
    starts = up_to automata (λ k. location_start k ∷ []) ++ up_to (length S.variables) (λ i. value_start i ∷ []);
    steps =
        up_to automata (λ k. up_to (choices k) (λ j. choice_step k j ∷ []))
        ++ up_to (length S.variables) (λ i. value_step i ∷ []);
    always = up_to (length S.kinds) event_always;
    reachable = is_at N.Marked 1;
  }
