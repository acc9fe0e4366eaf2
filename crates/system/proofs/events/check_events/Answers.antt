use Rattle.std.proofs.Common.{◌≡◌, ◌+◌, ap, ◌∙◌, arith}
use Rattle.scan.proofs.Runs.{passed_on, answers}
use Rattle.scan.proofs.Loops.{going_all}
use Rattle.system.proofs.Sections.{events_bad, events_begin, event_bad, event_read}
use Rattle.system.proofs.events.check_events.Goals as goal

pub returns-in_err-events-clause-says : goal.returns-in_err-events-clause-says
returns-in_err-events-clause-says c =
    passed_on _ _ _ _ c.from_residual.ensures.1 (events_bad _ _ _ c.count_of-origin.ensures c.in_err-events.ensures.says)

pub loop-k-init : goal.loop-k-init
loop-k-init c =
    let h = c.in_ok-events.ensures.within in
    (events_begin _ _ _ c.count_of-origin.ensures c.in_ok-events.ensures.says, omega arith, h.2)

pub returns-in_err-zero_or_one-clause-says : goal.returns-in_err-zero_or_one-clause-says
returns-in_err-zero_or_one-clause-says c =
    passed_on _ _ _ _ c.from_residual-in_err-zero_or_one.ensures.1 (event_bad _ _ _ _ _ c.loop-k-test.true c.row_after-origin.ensures c.loop-k.invariant.0 c.in_err-zero_or_one.ensures.says)

pub loop-k-preserved : goal.loop-k-preserved
loop-k-preserved c =
    let h = c.in_ok-zero_or_one.ensures.within in
    (event_read _ _ _ _ _ c.loop-k-test.true c.row_after-origin.ensures c.loop-k.invariant.0 c.in_ok-zero_or_one.ensures.says, omega arith, c.loop-k.invariant.2)

pub returns-clause-says : goal.returns-clause-says
returns-clause-says c =
    let same : c.loop-k.k ≡ c.in_ok-events.events = omega (arith, c.loop-k.auto.k-end) in
    let g = c.loop-k.invariant.0 in
    answers _ _ _ _ _ (going_all _ _ _ _ _ _ _ c.loop-k-test.false g) (g.count ∙ same, ap (λ n. n + 1) same)
