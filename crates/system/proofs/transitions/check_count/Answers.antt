use Rattle.scan.proofs.Runs.{passed_on}
use Rattle.system.proofs.Rows.{count_bad, count_read, count_over}
use Rattle.system.proofs.transitions.check_count.Goals as goal

pub returns-in_err-rows-clause-says : goal.returns-in_err-rows-clause-says
returns-in_err-rows-clause-says c =
    passed_on _ _ _ _ c.from_residual.ensures.1 (count_bad _ _ _ _ c.count_of-origin.ensures c.in_err-rows.ensures.says)

pub returns-then-rows-le512-clause-says : goal.returns-then-rows-le512-clause-says
returns-then-rows-le512-clause-says c =
    let h = c.in_ok-rows.ensures in
    count_read _ _ _ _ c.count_of-origin.ensures h.says c.if-rows-le512.true

pub returns-else-rows-le512-clause-says : goal.returns-else-rows-le512-clause-says
returns-else-rows-le512-clause-says c = record { agree = count_over _ _ _ _ _ c.count_of-origin.ensures c.in_ok-rows.ensures.says c.if-rows-le512.false c.broken.ensures }
