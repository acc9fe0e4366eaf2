use Rattle.scan.proofs.Runs.{passed_on}
use Rattle.system.proofs.Rows.{from_bad, event_bad, to_bad, guard_bad, transition_read}
use Rattle.system.proofs.transitions.Row.check.Goals as goal

pub returns-in_err-number-clause-says : goal.returns-in_err-number-clause-says
returns-in_err-number-clause-says c A h =
    passed_on _ _ _ _ c.from_residual.ensures.1 (from_bad _ _ _ A _ (c.locations-locations.ensures A h) _ _ _ c.in_err-number.ensures.says)

pub returns-in_err-check_event-clause-says : goal.returns-in_err-check_event-clause-says
returns-in_err-check_event-clause-says c A h =
    passed_on _ _ _ _ c.from_residual-in_err-check_event.ensures.1 (event_bad _ _ _ A _ (c.locations-locations.ensures A h) _ _ _ _ c.in_ok-number.ensures.says (c.in_err-check_event.ensures.says A h))

pub returns-in_err-number-2-clause-says : goal.returns-in_err-number-2-clause-says
returns-in_err-number-2-clause-says c A h =
    passed_on _ _ _ _ c.from_residual-in_err-number-2.ensures.1 (to_bad _ _ _ A _ (c.locations-locations.ensures A h) _ _ _ _ _ c.in_ok-number.ensures.says (c.in_ok-check_event.ensures.says A h) c.in_err-number-2.ensures.says)

pub returns-in_err-next-clause-says : goal.returns-in_err-next-clause-says
returns-in_err-next-clause-says c A h =
    passed_on _ _ _ _ c.from_residual-in_err-next.ensures.1 (guard_bad _ _ _ A _ (c.locations-locations.ensures A h) _ _ _ _ _ _ c.in_ok-number.ensures.says (c.in_ok-check_event.ensures.says A h) c.in_ok-number-2.ensures.says c.in_err-next.ensures.says)

pub returns-clause-says : goal.returns-clause-says
returns-clause-says c = λ A h. transition_read _ _ _ A _ (c.locations-locations.ensures A h) _ _ _ _ _ _ _ c.in_ok-number.ensures.says (c.in_ok-check_event.ensures.says A h) c.in_ok-number-2.ensures.says c.in_ok-next.ensures.says c.check_updates.ensures.says
