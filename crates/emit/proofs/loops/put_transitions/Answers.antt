use Rattle.std.proofs.Common.{ℕ, ◌+◌, fold, sym, ap, ◌∙◌, subst, inl, inr, arith}
use Rattle.std.specs.Iterator.Adapters.{zip_second}
use Rattle.sinks.specs.Text.{each}
use Rattle.system.specs.System.{Transition}
use Rattle.emit.proofs.Turns.{Left, left_turn, left_past, left_ended}
use Rattle.emit.proofs.loops.put_transitions.Goals as goal

pub loop-j-preserved : goal.loop-j-preserved
loop-j-preserved g c =
    let e = c.in-Some.ensures.steps in
    let f = g.S.Sink.step in
    let F : ℕ → Transition → _ = λ i. g.P.TransitionText.text c.args.piece.now (i + 1) in
    let inv = c.loop-j.invariant in (
      (tt, tt),
      tt,
      e.0.0 ∙ inv.2,
      λ k ts h.
          subst (λ i. Left f F c.args.rows.now.left k i (zip_second c.next.new.self) c.put.new.s (fold f c.args.s.now (each F 0 ts))) (sym e.0.1.2)
          (left_turn f F _ k _ _ _ _ (inv.3 k ts h) c.in-Some.t _ _ e.1 (λ r shows. c.put.ensures r shows ∙ ap (λ i. fold f c.loop-j.s (F i r.transition)) e.0.1.1)),
    )

pub returns : goal.returns
returns g c k ts h =
    let left = c.loop-j.invariant.3 k ts h in
    elim c.in-None.ensures.steps [
      | inl (u, done) ↦ left_past g.S.Sink.step _ _ k _ _ _ _ left (omega (arith, c.loop-j.invariant.2, done.1.0))
      | inr (u, done) ↦ left_ended g.S.Sink.step _ _ k _ _ _ _ left u done
    ]
