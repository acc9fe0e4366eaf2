use Rattle.std.proofs.Common.{◌≡◌, ◌<◌, length, refl, ◌∙◌, arith, length-set}
use Rattle.scan.proofs.Runs.{passed_on, answers}
use Rattle.scan.proofs.Loops.{going_all}
use Rattle.system.proofs.Starts.{heads_bad, heads_begin, head_bad, head_read}
use Rattle.system.proofs.automata.check_heads.Goals as goal

pub returns-in_err-count-clause-says : goal.returns-in_err-count-clause-says
returns-in_err-count-clause-says c =
    passed_on _ _ _ _ c.from_residual.ensures.1 (heads_bad _ _ _ _ _ c.count_of-origin.ensures c.in_err-count.ensures.says)

pub loop-k-init : goal.loop-k-init
loop-k-init c =
    let h = c.in_ok-count.ensures.within in
    (heads_begin _ _ _ _ _ _ c.count_of-origin.ensures c.in_ok-count.ensures.says, omega arith, h.2, refl)

pub returns-in_err-end-clause-says : goal.returns-in_err-end-clause-says
returns-in_err-end-clause-says c =
    passed_on _ _ _ _ c.from_residual-in_err-end.ensures.1 (head_bad _ _ _ _ _ _ _ _ _ c.loop-k-test.true c.row_after-origin.ensures c.loop-k.invariant.0 c.in_err-end.ensures.says.agree)

pub loop-k-preserved : goal.loop-k-preserved
loop-k-preserved c =
    let h = c.in_ok-end.ensures in
    let v = c.loop-k.invariant in
    let room : c.loop-k.k < length c.loop-k.rows = omega (arith, v.2, v.3, c.loop-k-test.true) in
    (head_read _ _ _ (λ i. (c.type_inv.file i).fits) _ _ _ _ _ _ c.loop-k-test.true room c.row_after-origin.ensures v.0 h.says, h.within, v.2, length-set _ _ _ ∙ v.3)

pub returns-clause-says : goal.returns-clause-says
returns-clause-says c =
    let same : c.loop-k.k ≡ c.in_ok-count.count = omega (arith, c.loop-k.auto.k-end) in
    let g = c.loop-k.invariant.0 in
    answers _ _ _ _ _ (going_all _ _ _ _ _ _ _ c.loop-k-test.false g) (g.count ∙ same, refl, g.holds)
