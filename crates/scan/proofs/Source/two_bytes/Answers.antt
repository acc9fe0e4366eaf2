use Rattle.std.proofs.Common.{sym, refl, ◌∙◌}
use Rattle.scan.specs.Scan.{pair}
use Rattle.scan.proofs.Runs.{passed_on, ask_ends, ask_goes, answers, run-done}
use Rattle.scan.proofs.Source.two_bytes.Goals as goal

pub returns-in_err-high-clause-says : goal.returns-in_err-high-clause-says
unfolding pair
returns-in_err-high-clause-says c =
    passed_on _ _ _ _ c.from_residual.ensures.1 (ask_ends _ _ _ _ _ c.in_err-high.ensures)

pub returns-in_err-low-clause-says : goal.returns-in_err-low-clause-says
unfolding pair
returns-in_err-low-clause-says c =
    passed_on _ _ _ _ c.from_residual-in_err-low.ensures.1 (ask_goes _ _ _ _ _ c.in_ok-high.ensures ∙ ask_ends _ _ _ _ _ c.in_err-low.ensures)

pub returns-clause-says : goal.returns-clause-says
unfolding pair
returns-clause-says c =
    let read = ask_goes _ _ _ _ _ c.in_ok-high.ensures ∙ ask_goes _ _ _ _ _ c.in_ok-low.ensures in
    answers _ _ _ _ _ (read ∙ run-done _ _ _) (sym c.from_be_bytes.ensures, refl)
