use Rattle.std.proofs.Common.{◌≡◌, ◌∙◌, w16, to_z, of_z, rules}
use Rattle.view.proofs.VariableParts.{value-shown}
use Rattle.view.proofs.look.value_at.Goals as goal

pub returns : goal.returns
returns c v fits h =
    let same : to_z w16 (of_z w16 c.from_be_bytes.result) ≡ c.from_be_bytes.result = search rules in
    same ∙ c.from_be_bytes.ensures ∙ value-shown _ _ v fits h
