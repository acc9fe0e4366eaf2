use Rattle.std.specs.Prelude.{refl}
use Rattle.clash.specs.EqualValues.{equal_status}
use Rattle.clash.specs.Laws.Plain.{plain}
use Rattle.clash.proofs.Coded.{of_pair_lem, some}
use Rattle.clash.proofs.equal_values.AnyRule.joined_status.Goals as goal

pub invariant_of-result : goal.invariant_of-result
invariant_of-result g c = record { coded = some (of_pair_lem (plain 4 equal_status refl) refl) }
