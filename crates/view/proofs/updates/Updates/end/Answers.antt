use Rattle.std.proofs.Common.{refl, arith}
use native.Mathlib.Numerals.{unary_clauses}
use mathlib.Core.Logic.{∥∥₁_map}
use Rattle.view.proofs.Many.{to_more, to_all}
use Rattle.view.proofs.UpdateParts.{update-standing}
use Rattle.view.proofs.updates.Updates.end.Goals as goal

pub update_end-at-requires : goal.update_end-at-requires
update_end-at-requires c =
    update-standing _ _ _ (∥∥₁_map c.args.self.now.stand (λ w. let g = c.loop.invariant w.0 w.1 in (g.xs, g.here)))
    (λ none. omega (arith, c.loop-test.true))

pub loop-init : goal.loop-init
loop-init c us h = record { xs = us; here = simp unary_clauses h; ends = refl }

pub loop-preserved : goal.loop-preserved
loop-preserved c us h = to_more _ _ (c.loop.invariant us h) (omega arith) (λ none. omega (arith, c.loop-test.true)) c.update_end-at.ensures

pub returns : goal.returns
returns c us h = to_all (c.loop.invariant us h) (omega (arith, c.loop-test.false))
