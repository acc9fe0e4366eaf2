-- A system: events, bounded variables, and automata that synchronise on the events of their alphabets.
use Rattle.std.specs.Prelude.{ℕ, suc, Bool, List, [], ◌∷◌, ◌++◌, map, ℤ}
use Rattle.expr.specs.Expr.{Expr, guard, term}
pub use Rattle.system.specs.declared.kinds.EventKind.{EventKind}
pub use Rattle.system.specs.declared.kinds.Role.{Role}
use Rattle.system.specs.declared.kinds.Role.TheVariants.{Plant}

-- a variable, and the term whose value it is to take
pub record Update : Type 0 where
  pub variable : ℕ
  pub value : Expr term

-- from one location to another on an event, if the guard is true
pub record Transition : Type 0 where
  pub from : ℕ
  pub event : ℕ
  pub to : ℕ
  pub guard : Expr guard
  pub updates : List Update

-- as many locations as marks; the choice numbers of the transitions are 1, 2, .. in their order
pub record Automaton : Type 0 where
  pub role : Role
  pub start : ℕ
  pub marks : List Bool
  pub alphabet : List ℕ
  pub transitions : List Transition

pub record Variable : Type 0 where
  pub low : ℤ
  pub high : ℤ
  pub start : ℤ
  pub marked_low : ℤ
  pub marked_high : ℤ

pub record System : Type 0 where
  pub kinds : List EventKind
  pub variables : List Variable
  pub automata : List Automaton

-- what stands where no automaton does
abbrev pub idle : Automaton
idle = record { role = Plant; start = 0; marks = []; alphabet = []; transitions = [] }

-- a transition and the number of its automaton
pub record Row : Type 0 where
  pub owner : ℕ
  pub transition : Transition

-- the transitions of automata, whose numbers count from k, automaton by automaton
abbrev pub rows_from : ℕ → List Automaton → List Row
rows_from k [] = []
rows_from k (A ∷ As) = map (λ t. record { owner = k; transition = t }) A.transitions ++ rows_from (suc k) As

abbrev pub rows : System → List Row
rows S = rows_from 0 S.automata
