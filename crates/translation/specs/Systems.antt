-- The parts of a system by their numbers, and tests on them.
use Rattle.std.specs.Prelude.{ℕ, zero, suc, pred, Bool, true, false, cond, not, ◌&&◌, ◌||◌, List, [], ◌∷◌, map, length, pos, ◌==◌, slice_index_or}
use Rattle.std.proofs.Math.Option.{Option, none, some}
use Rattle.expr.specs.Expr.{Expr, term, truth}
use Rattle.system.specs.System.{Update, Transition, Automaton, Variable, System, idle}
use Rattle.system.specs.declared.kinds.EventKind.{EventKind}
use Rattle.system.specs.declared.kinds.Role.{Role}
use Rattle.system.specs.declared.kinds.EventKind.TheVariants.{Controllable, Uncontrollable}
use Rattle.system.specs.declared.kinds.Role.TheVariants.{Plant, Specification}
use Rattle.model_text.specs.Ranges.{Span, Ranges}

abbrev pub automaton : System → ℕ → Automaton
automaton S k = slice_index_or S.automata k idle

-- what stands where no variable does
abbrev pub zero_variable : Variable
zero_variable = record { low = pos 0; high = pos 0; start = pos 0; marked_low = pos 0; marked_high = pos 0 }

abbrev pub variable : System → ℕ → Variable
variable S i = slice_index_or S.variables i zero_variable

-- what stands where no transition does
abbrev pub idle_transition : Transition
idle_transition = record { from = 0; event = 0; to = 0; guard = truth true; updates = [] }

-- the transition whose choice number is one more than j
abbrev pub transition : List Transition → ℕ → Transition
transition ts j = slice_index_or ts j idle_transition

abbrev pub is_uncontrollable : EventKind → Bool
is_uncontrollable Controllable = false
is_uncontrollable Uncontrollable = true

abbrev pub is_plant : Role → Bool
is_plant Plant = true
is_plant Specification = false

abbrev pub is_in : ℕ → List ℕ → Bool
is_in e [] = false
is_in e (x ∷ xs) = e == x || is_in e xs

-- automaton k is a plant, or a specification, with the event in its alphabet
abbrev pub plant_with : System → ℕ → ℕ → Bool
plant_with S e k = is_plant (automaton S k).role && is_in e (automaton S k).alphabet

abbrev pub specification_with : System → ℕ → ℕ → Bool
specification_with S e k = not (is_plant (automaton S k).role) && is_in e (automaton S k).alphabet

abbrev pub any_below : ℕ → (ℕ → Bool) → Bool
any_below zero f = false
any_below (suc n) f = any_below n f || f n

-- an uncontrollable event in the alphabets of a plant and of a specification
abbrev pub controlled : System → ℕ → Bool
controlled S e =
    is_uncontrollable (slice_index_or S.kinds e Controllable)
    && (any_below (length S.automata) (plant_with S e) && any_below (length S.automata) (specification_with S e))

-- the term of the first update of the variable
abbrev pub sought : ℕ → List Update → Option (Expr term)
sought i [] = none
sought i (u ∷ us) = cond (i == u.variable) (some u.value) (sought i us)

abbrev pub span : Variable → Span
span v = record { low = v.low; high = v.high }

abbrev pub ranges : System → Ranges
ranges S = record {
  events = pred (length S.kinds);
  choices = map (λ A. length A.transitions) S.automata;
  locations = map (λ A. pred (length A.marks)) S.automata;
  values = map span S.variables;
}
