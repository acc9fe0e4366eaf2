use Rattle.std.proofs.Common.{◌≡◌, drop, fold}
use Rattle.system.specs.System.{rows_from}
use Rattle.view.specs.Shown.{system_of, RowsOf}
use Rattle.model_text.specs.Lists.{up_to}
use Rattle.translation.specs.Systems.{automaton}
use Rattle.emit.proofs.loops.put_automata.Given as goal

abbrev pub invariant-loop-number : goal.invariant-loop-number
invariant-loop-number g l =
    let sys = system_of l.view in
    RowsOf l.rest (rows_from l.number (drop l.number sys.automata))
    × (l.s ≡ fold g.S.Sink.step l.initial.s (up_to l.number (λ k. g.P.AutomatonText.text l.piece k (automaton sys k))))
