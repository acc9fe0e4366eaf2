use Rattle.std.proofs.Common.{◌≡◌, ◌∙◌, w16, to_z, of_z, rules}
use Rattle.scan.proofs.Runs.{passed_on}
use Rattle.system.proofs.Sections.{value_bad, value_read}
use Rattle.system.proofs.variables.check_value.Goals as goal

pub returns-in_err-two_bytes-clause-says : goal.returns-in_err-two_bytes-clause-says
returns-in_err-two_bytes-clause-says c =
    passed_on _ _ _ _ c.from_residual.ensures.1 (value_bad _ _ _ _ c.in_err-two_bytes.ensures.says)

pub returns-clause-says : goal.returns-clause-says
returns-clause-says c =
    let same : to_z w16 (of_z w16 c.cast_signed.result) ≡ c.cast_signed.result = search rules in
    value_read _ _ _ _ _ c.in_ok-two_bytes.ensures.says (same ∙ c.cast_signed.ensures)
