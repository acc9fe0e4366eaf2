-- Which systems are well formed: every limit, range and order, in words.
use Rattle.std.specs.Prelude.{◌≡◌, ℕ, ◌<◌, ◌≤◌, ◌⊎◌, List, [], ◌∷◌, map, length, pos, negsuc, ◌≤ℤ◌}
use Rattle.scan.specs.Stands.{Each}
use Rattle.expr.specs.Expr.{Formed}
use Rattle.system.specs.System.{Update, Transition, Automaton, Variable, System, rows}

abbrev pub All : {A : Type 0} → (A → Type 0) → List A → Type 0
All P [] = Unit {0}
All P (x ∷ xs) = P x × All P xs

abbrev pub In : ℕ → List ℕ → Type 0
In e [] = ⊥
In e (x ∷ xs) = (e ≡ x) ⊎ In e xs

-- each number is above all before it
abbrev pub Rising : List ℕ → Type 0
Rising xs = Each (λ before x. All (λ y. y < x) before) [] xs

-- -1000 ≤ low ≤ high ≤ 1000; the start lies in low to high, and the marked range within it
pub record VariableFormed (v : Variable) : Type 0 where
  pub bottom : negsuc 999 ≤ℤ v.low
  pub some : v.low ≤ℤ v.high
  pub top : v.high ≤ℤ pos 1000
  pub start_low : v.low ≤ℤ v.start
  pub start_high : v.start ≤ℤ v.high
  pub marked_bottom : v.low ≤ℤ v.marked_low
  pub marked_some : v.marked_low ≤ℤ v.marked_high
  pub marked_top : v.marked_high ≤ℤ v.high

-- an automaton without its transitions, where there are that many events
pub record HeadFormed (events : ℕ) (A : Automaton) : Type 0 where
  pub some_location : 1 ≤ length A.marks
  pub locations : length A.marks ≤ 64
  pub start : A.start < length A.marks
  pub some_event : 1 ≤ length A.alphabet
  pub few_events : length A.alphabet ≤ 24
  pub known : All (λ e. e < events) A.alphabet
  pub rising : Rising A.alphabet

pub record UpdateFormed (variables : ℕ) (u : Update) : Type 0 where
  pub known : u.variable < variables
  pub value : Formed variables u.value

pub record TransitionFormed (events variables : ℕ) (A : Automaton) (t : Transition) : Type 0 where
  pub from : t.from < length A.marks
  pub event : t.event < events
  pub in_alphabet : In t.event A.alphabet
  pub to : t.to < length A.marks
  pub guard : Formed variables t.guard
  pub few_updates : length t.updates ≤ 12
  pub updates : All (UpdateFormed variables) t.updates
  pub rising : Rising (map (λ u. u.variable) t.updates)

pub record AutomatonFormed (events variables : ℕ) (A : Automaton) : Type 0 where
  pub head : HeadFormed events A
  pub transitions : All (TransitionFormed events variables A) A.transitions

pub record WellFormed (S : System) : Type 0 where
  pub some_event : 1 ≤ length S.kinds
  pub events : length S.kinds ≤ 64
  pub few_variables : length S.variables ≤ 12
  pub variables : All VariableFormed S.variables
  pub some_automaton : 1 ≤ length S.automata
  pub few_automata : length S.automata ≤ 12
  pub automata : All (AutomatonFormed (length S.kinds) (length S.variables)) S.automata
  pub few_transitions : length (rows S) ≤ 512
