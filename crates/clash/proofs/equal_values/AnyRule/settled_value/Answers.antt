use Rattle.std.specs.Prelude.{refl}
use Rattle.clash.specs.EqualValues.{own_value}
use Rattle.clash.specs.Laws.Plain.{plain}
use Rattle.clash.proofs.Coded.{of_wish_lem, some}
use Rattle.clash.proofs.equal_values.AnyRule.settled_value.Goals as goal

pub invariant_of-result : goal.invariant_of-result
invariant_of-result g c = record { coded = some (of_wish_lem (plain 3 own_value refl) refl) }
