use mathlib.Core.Logic.{∥∥₁_map}
use Rattle.view.proofs.UpdateParts.{update-parts, value-coded}
use Rattle.view.proofs.step.update_at.Goals as goal

pub invariant_of-result : goal.invariant_of-result
invariant_of-result c = record { coded = ∥∥₁_map c.requires.some (λ w. (w.0.value, value-coded _ _ w.0 w.1)) }

pub returns : goal.returns
returns c u h = record { variable = (update-parts _ _ u h).variable; value = value-coded _ _ u h }
