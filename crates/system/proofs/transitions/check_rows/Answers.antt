use Rattle.std.proofs.Common.{◌≡◌, ◌<◌, length, sym, refl, ◌∙◌, arith}
use Rattle.scan.proofs.Runs.{passed_on, answers}
use Rattle.scan.proofs.Loops.{going_all}
use Rattle.system.proofs.Rows.{rows_bad, rows_begin, owner_bad, row_bad, row_read}
use Rattle.system.proofs.transitions.check_rows.Goals as goal

pub returns-in_err-count-clause-says : goal.returns-in_err-count-clause-says
returns-in_err-count-clause-says c As long stand =
    passed_on _ _ _ _ c.from_residual.ensures.1 (rows_bad _ _ As _ _ _ c.in_err-count.ensures.says)

pub loop-k-init : goal.loop-k-init
loop-k-init c =
    let h = c.in_ok-count.ensures in
    (λ As long stand. rows_begin _ _ As _ _ _ h.says, h.within.1, h.within.0)

pub returns-in_err-owner-clause-says : goal.returns-in_err-owner-clause-says
returns-in_err-owner-clause-says c As long stand =
    passed_on _ _ _ _ c.from_residual-in_err-owner.ensures.1 (owner_bad _ _ As _ _ _ _ _ _ _ c.loop-k-test.true c.row_after-origin.ensures _ (sym long) (c.loop-k.invariant.0 As long stand) _ c.in_err-owner.ensures.says)

pub returns-in_err-end-clause-says : goal.returns-in_err-end-clause-says
returns-in_err-end-clause-says c =
    let h = c.in_ok-owner.ensures in
    λ As long stand.
    let below : c.in_ok-owner.owner < length As = omega (arith, h.within.1) in passed_on _ _ _ _ c.from_residual-in_err-end.ensures.1 (row_bad _ _ As _ _ _ _ _ _ _ c.loop-k-test.true c.row_after-origin.ensures _ (sym long) (c.loop-k.invariant.0 As long stand) _ _ h.says (c.in_err-end.ensures.says _ (stand.begin _ below)).agree)

pub loop-k-preserved : goal.loop-k-preserved
loop-k-preserved c =
    let h = c.in_ok-owner.ensures in
    let g = c.in_ok-end.ensures in (
      λ As long stand.
          let below : c.in_ok-owner.owner < length As = omega (arith, h.within.1) in
          row_read _ _ As _ _ _ _ _ _ _ c.loop-k-test.true c.row_after-origin.ensures _ (sym long) (c.loop-k.invariant.0 As long stand) _ _ h.says h.within.2 (g.says _ (stand.begin _ below)),
      g.within,
      c.loop-k.invariant.2,
    )

pub returns-clause-says : goal.returns-clause-says
returns-clause-says c =
    let same : c.loop-k.k ≡ c.in_ok-count.count = omega (arith, c.loop-k.auto.k-end) in
    λ As long stand.
    let g = c.loop-k.invariant.0 As long stand in
    answers _ _ _ _ _ (going_all _ _ _ _ _ _ _ c.loop-k-test.false g) (g.count ∙ same, refl, refl)
