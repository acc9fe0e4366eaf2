use Rattle.std.proofs.Common.{sym, ap, ◌∙◌}
use Rattle.scan.specs.Scan.{bad}
use Rattle.system.specs.Scan.{is_in, event_in}
use Rattle.scan.proofs.Runs.{passed_on}
use Rattle.system.proofs.HeadParts.{contained}
use Rattle.system.proofs.Numbers.{both_bad, both_fails, both_read}
use Rattle.system.proofs.transitions.Row.check_event.Goals as goal

pub returns-in_err-e-clause-says : goal.returns-in_err-e-clause-says
unfolding event_in
returns-in_err-e-clause-says c A h =
    passed_on _ _ _ _ c.from_residual.ensures.1 (both_bad _ _ _ _ _ _ _ c.in_err-e.ensures.says)

pub returns-then-contains-clause-says : goal.returns-then-contains-clause-says
unfolding event_in
returns-then-contains-clause-says c A h =
    both_read _ _ _ _ _ _ _ c.in_ok-e.ensures.says
    (ap (is_in c.in_ok-e.e) (sym (c.alphabet.ensures A h)) ∙ sym (c.contains.ensures.value ∙ contained c.in_ok-e.e c.alphabet.result.now) ∙ c.if-contains.true)

pub returns-else-contains-clause-says : goal.returns-else-contains-clause-says
unfolding event_in
returns-else-contains-clause-says c A h =
    record { agree = both_fails _ _ _ _ _ _ _ c.in_ok-e.ensures.says (ap (is_in c.in_ok-e.e) (sym (c.alphabet.ensures A h)) ∙ sym (c.contains.ensures.value ∙ contained c.in_ok-e.e c.alphabet.result.now) ∙ c.if-contains.false) ∙ ap bad (sym c.broken.ensures) }
