use Rattle.std.proofs.Common.{refl, arith}
use Rattle.scan.proofs.Runs.{passed_on, answers}
use Rattle.scan.proofs.Loops.{going_all}
use Rattle.system.proofs.Updates.{updates_bad, updates_begin, variable_bad, term_bad, update_read}
use Rattle.system.proofs.transitions.Row.check_updates.Goals as goal

pub returns-in_err-updates-clause-says : goal.returns-in_err-updates-clause-says
returns-in_err-updates-clause-says c =
    passed_on _ _ _ _ c.from_residual.ensures.1 (updates_bad _ _ _ _ _ c.in_err-updates.ensures.says)

pub loop-init : goal.loop-init
loop-init c =
    let h = c.in_ok-updates.ensures in
    (updates_begin _ _ _ _ _ h.says, omega (arith, h.within.0))

pub returns-in_err-v-clause-says : goal.returns-in_err-v-clause-says
returns-in_err-v-clause-says c =
    passed_on _ _ _ _ c.from_residual-in_err-v.ensures.1 (variable_bad _ _ _ _ _ _ _ _ _ c.loop-test.true c.loop.invariant.0 c.in_err-v.ensures.says)

pub returns-in_err-end-clause-says : goal.returns-in_err-end-clause-says
returns-in_err-end-clause-says c =
    passed_on _ _ _ _ c.from_residual-in_err-end.ensures.1 (term_bad _ _ _ _ _ _ _ _ _ _ c.loop-test.true c.loop.invariant.0 c.in_ok-v.ensures.says c.in_err-end.ensures.says)

pub loop-preserved : goal.loop-preserved
loop-preserved c =
    let h = c.in_ok-v.ensures in
    let g = c.in_ok-end.ensures in
    (update_read _ _ _ _ _ _ _ _ _ _ c.loop-test.true c.loop.invariant.0 h.says h.within.2 g.says, g.within.1)

pub returns-clause-says : goal.returns-clause-says
returns-clause-says c =
    let g = c.loop.invariant.0 in
    answers _ _ _ _ _ (going_all _ _ _ _ _ _ _ c.loop-test.false g) refl
