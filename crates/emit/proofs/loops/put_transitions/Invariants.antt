use Rattle.std.proofs.Common.{◌≡◌, ℕ, ◌+◌, List, fold}
use Rattle.std.specs.Iterator.Adapters.{zip_first, zip_second}
use Rattle.sinks.specs.Text.{each}
use Rattle.system.specs.System.{Transition}
use Rattle.view.specs.Shown.{RowsOf}
use Rattle.emit.specs.Own.{own_rows}
use Rattle.emit.proofs.Turns.{Left}
use Rattle.emit.proofs.loops.put_transitions.Given as goal

abbrev pub invariant-loop-j : goal.invariant-loop-j
invariant-loop-j g l =
    let numbers = zip_first l.j-iterator in
    let text = λ (j : ℕ). g.P.TransitionText.text l.piece (j + 1) in
    (goal.iterator-loop-j g).can_next l.j-iterator
    × (goal.iterator-loop-j g).is_finite l.j-iterator
    × (numbers.end ≡ l.rows.left)
    × ((k : ℕ) (ts : List Transition) → RowsOf l.rows (own_rows k ts)
    → Left g.S.Sink.step text l.rows.left k numbers.start (zip_second l.j-iterator) l.s (fold g.S.Sink.step l.initial.s (each text 0 ts)))
