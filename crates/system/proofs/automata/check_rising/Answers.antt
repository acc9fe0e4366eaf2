use Rattle.std.proofs.Common.{sym, ap, ◌∙◌}
use Rattle.std.proofs.lemmas.Bool.{le-leb, lt-leb}
use Rattle.scan.specs.Scan.{bad}
use Rattle.system.specs.Scan.{rising}
use Rattle.scan.proofs.Runs.{passed_on}
use Rattle.system.proofs.Numbers.{both_bad, both_fails, both_read}
use Rattle.system.proofs.automata.check_rising.Goals as goal

pub returns-in_err-x-clause-says : goal.returns-in_err-x-clause-says
unfolding rising
returns-in_err-x-clause-says c =
    passed_on _ _ _ _ c.from_residual.ensures.1 (both_bad _ _ _ _ _ _ _ c.in_err-x.ensures.says)

pub returns-then-floor-x-clause-says : goal.returns-then-floor-x-clause-says
unfolding rising
returns-then-floor-x-clause-says c =
    let h = c.in_ok-x.ensures in
    both_read _ _ _ _ _ _ _ h.says (le-leb _ _ c.if-floor-x.true)

pub returns-else-floor-x-clause-says : goal.returns-else-floor-x-clause-says
unfolding rising
returns-else-floor-x-clause-says c = record { agree = both_fails _ _ _ _ _ _ _ c.in_ok-x.ensures.says (lt-leb _ _ c.if-floor-x.false) ∙ ap bad (sym c.broken.ensures) }
