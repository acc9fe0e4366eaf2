use Rattle.std.proofs.Common.{◌∙◌, rules}
use Rattle.std.proofs.lemmas.Result.{err_from_is_err_and}
use Rattle.scan.proofs.Runs.{test_ends, test_passes, test_fails}
use Rattle.scan.proofs.Source.tested.Goals as goal

pub returns-in_err-b-clause-says : goal.returns-in_err-b-clause-says
returns-in_err-b-clause-says g c p h =
    let e = err_from_is_err_and c.from_residual.result c.from_residual.ensures.1 in
    rw (e.1, e.2) (test_ends _ _ _ _ _ _ c.in_err-b.ensures)

pub returns-then-test-clause-says : goal.returns-then-test-clause-says
returns-then-test-clause-says g c p h = test_passes _ _ _ _ _ _ c.in_ok-b.ensures (h _ _ (search rules) c.test.ensures ∙ c.if-test.true)

pub returns-clause-says : goal.returns-clause-says
returns-clause-says g c p h = test_fails _ _ _ _ _ _ _ c.in_ok-b.ensures (h _ _ (search rules) c.test.ensures ∙ c.if-test.false) c.broken.ensures
