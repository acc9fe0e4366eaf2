use Rattle.std.proofs.Common.{sym, ap, ◌∙◌}
use Rattle.std.proofs.lemmas.Result.{err_from_is_err_and}
use Rattle.scan.specs.Scan.{bad}
use Rattle.scan.specs.Stands.{Bytes}
use Rattle.scan.proofs.Runs.{answers}
use Rattle.system.proofs.Verdicts.{accepted_stands, refusal_holds}
use Rattle.system.proofs.Whole.{no_events, no_variables, no_heads, rows_ready, no_rows, bytes_follow, accepted, shown}
use Rattle.system.proofs.check.Goals as goal

pub returns-in_err-events : goal.returns-in_err-events
returns-in_err-events c =
    let p = err_from_is_err_and c.from_residual.result c.from_residual.ensures.1 in
    let is = no_events _ _ c.in_err-events.ensures.says in
    rw (p.1, p.2) (record { exact = record { agree = is }; means = refusal_holds _ (λ i. (c.type_inv.file i).fits) _ is })

pub returns-in_err-variables : goal.returns-in_err-variables
returns-in_err-variables c =
    let p = err_from_is_err_and c.from_residual-in_err-variables.result c.from_residual-in_err-variables.ensures.1 in
    let is = no_variables _ _ c.in_ok-events.ensures.says _ c.in_err-variables.ensures.says in
    rw (p.1, p.2) (record { exact = record { agree = is }; means = refusal_holds _ (λ i. (c.type_inv.file i).fits) _ is })

pub returns-in_err-heads : goal.returns-in_err-heads
returns-in_err-heads c =
    let p = err_from_is_err_and c.from_residual-in_err-heads.result c.from_residual-in_err-heads.ensures.1 in
    let is = no_heads _ _ c.in_ok-events.ensures.says _ c.in_ok-variables.ensures.says _ c.in_err-heads.ensures.says in
    rw (p.1, p.2) (record { exact = record { agree = is }; means = refusal_holds _ (λ i. (c.type_inv.file i).fits) _ is })

pub returns-in_err-rows : goal.returns-in_err-rows
returns-in_err-rows c =
    let p = err_from_is_err_and c.from_residual-in_err-rows.result c.from_residual-in_err-rows.ensures.1 in
    let is = no_rows _ _ c.in_ok-events.ensures.says _ c.in_ok-variables.ensures.says _ c.in_ok-heads.ensures.within.0 c.in_ok-heads.ensures.says _ c.in_err-rows.ensures.says in
    rw (p.1, p.2) (record { exact = record { agree = is }; means = refusal_holds _ (λ i. (c.type_inv.file i).fits) _ is })

pub check_rows-requires : goal.check_rows-requires
check_rows-requires c = rows_ready _ _ c.in_ok-events.ensures.says _ c.in_ok-variables.ensures.says _ c.in_ok-heads.ensures.within.0 c.in_ok-heads.ensures.says

pub returns-then-rows-file : goal.returns-then-rows-file
returns-then-rows-file c =
    let is = bytes_follow _ _ c.in_ok-events.ensures.says _ c.in_ok-variables.ensures.says _ c.in_ok-heads.ensures.within.0 c.in_ok-heads.ensures.says (λ i. (c.type_inv.file i).fits) _ c.in_ok-rows.ensures.says c.if-rows-file.true ∙ ap bad (sym c.fault.ensures) in
    record { exact = record { agree = is }; means = refusal_holds _ (λ i. (c.type_inv.file i).fits) _ is }

pub returns : goal.returns
returns c =
    let bytes : Bytes c.args.file.now = λ i. (c.type_inv.file i).fits in
    let is = accepted _ _ c.in_ok-events.ensures.says _ c.in_ok-variables.ensures.says _ c.in_ok-heads.ensures.within.0 c.in_ok-heads.ensures.says bytes _ c.in_ok-rows.ensures.says c.if-rows-file.false in
    record {
      exact = answers _ _ _ _ _ is (shown _ _ c.in_ok-events.ensures.says _ c.in_ok-variables.ensures.says _ c.in_ok-heads.ensures.within.0 c.in_ok-heads.ensures.says bytes _ c.in_ok-rows.ensures.says c.if-rows-file.false);
      means = (_, accepted_stands _ bytes _ _ is);
    }
