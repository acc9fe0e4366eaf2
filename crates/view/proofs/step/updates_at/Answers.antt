use mathlib.Core.Logic.{∥∥₁_map}
use Rattle.view.proofs.RowParts.{row_updates, row_ends}
use Rattle.view.proofs.step.updates_at.Goals as goal

pub invariant_of-result : goal.invariant_of-result
invariant_of-result c = record { stand = ∥∥₁_map c.requires.some (λ w. (w.0.transition.updates, row_updates _ _ w.0 w.1)) }

pub returns : goal.returns
returns c = record { are = λ t h. row_updates _ _ t h; last = λ t h. row_ends _ _ t h }
