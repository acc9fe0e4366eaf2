use Rattle.scan.proofs.Runs.{passed_on}
use Rattle.expr.proofs.Lengths.{sized_none, sized_bad, sized_read}
use Rattle.expr.proofs.check.end_at.Goals as goal

pub returns-in_err-end-clause-says : goal.returns-in_err-end-clause-says
returns-in_err-end-clause-says g c =
    passed_on _ _ _ _ c.from_residual.ensures.1 (sized_none _ _ _ g.E.Expression.kind _ _ c.in_err-end.ensures)

pub returns-in_err-stop-clause-says : goal.returns-in_err-stop-clause-says
returns-in_err-stop-clause-says g c =
    passed_on _ _ _ _ c.from_residual-in_err-stop.ensures.1 (sized_bad _ _ _ g.E.Expression.kind _ _ c.in_ok-end.ensures _ c.in_err-stop.ensures.says)

pub returns-clause-says : goal.returns-clause-says
returns-clause-says g c =
    let h = c.in_ok-stop.ensures in
    sized_read _ _ _ g.E.Expression.kind _ _ c.in_ok-end.ensures _ _ h.says h.within.2 c.whole.ensures
