-- An automaton and its rows.
use Rattle.std.specs.Prelude.{ℕ, List, map}
use Rattle.system.specs.System.{Transition, Automaton, Row}
use Rattle.view.specs.Shown.{HeadShows, RowsOf}
use Rattle.emit.specs.declared.automaton.Automaton.{Automaton as Read}

abbrev pub own_rows : ℕ → List Transition → List Row
own_rows k ts = map (λ t. record { owner = k; transition = t }) ts

-- the automaton that was read, under its number
pub record AutomatonShows (a : Read) (A : Automaton) : Type 0 where
  pub head : HeadShows a.head A
  pub rows : RowsOf a.rows (own_rows a.number A.transitions)
