use Rattle.std.proofs.Common.{◌≡◌, ◌+◌, ◌<◌, length, drop, fold, sym, ap, ◌∙◌, subst, add-one, arith}
use Rattle.std.proofs.lemmas.List.{at_drop_more}
use Rattle.system.specs.System.{idle, rows_from}
use Rattle.view.specs.Shown.{system_of, RowsOf}
use Rattle.view.proofs.Systems.{viewed}
use Rattle.model_text.specs.Lists.{up_to}
use Rattle.translation.specs.Systems.{automaton}
use Rattle.emit.proofs.Sent.{turn}
use Rattle.emit.proofs.loops.put_automata.Goals as goal

pub loop-number-preserved : goal.loop-number-preserved
loop-number-preserved g c =
    let sys = system_of c.args.view.now in
    let k = c.loop-number.number in
    let As = sys.automata in
    let inv = c.loop-number.invariant in
    let under : k < length As = omega (arith, (viewed c.args.view.now).automata, c.loop-number-test.true) in
    let parts = c.split_own.ensures (automaton sys k) (drop (k + 1) As) (subst (RowsOf c.loop-number.rest) (at_drop_more (rows_from k) As k idle under) inv.0) in (
      subst (λ i. RowsOf c.split_own.result.1 (rows_from i (drop (k + 1) As))) (sym (add-one k)) parts.1,
      turn g.S.Sink.step (λ k. g.P.AutomatonText.text c.args.piece.now k (automaton sys k)) _ k c.loop-number.s _ inv.1
          (c.put.ensures (automaton sys k) (record { head = c.head_of-head.ensures; rows = parts.0 })),
    )

pub returns : goal.returns
returns g c =
    let sys = system_of c.args.view.now in
    let all : c.loop-number.number ≡ length sys.automata = omega (arith, (viewed c.args.view.now).automata, c.loop-number-test.false) in
    c.loop-number.invariant.1 ∙ ap (λ n. fold g.S.Sink.step c.args.s.now (up_to n (λ k. g.P.AutomatonText.text c.args.piece.now k (automaton sys k)))) all
