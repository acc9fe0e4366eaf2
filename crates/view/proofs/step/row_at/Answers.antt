use mathlib.Core.Logic.{∥∥₁_map}
use Rattle.view.proofs.RowParts.{row_parts, guard_coded}
use Rattle.view.proofs.step.row_at.Goals as goal

pub invariant_of-result : goal.invariant_of-result
invariant_of-result c = record { coded = ∥∥₁_map c.requires.some (λ w. (w.0.transition.guard, guard_coded _ _ w.0 w.1)) }

pub returns-clause-shows : goal.returns-clause-shows
returns-clause-shows c t h =
    let p = row_parts _ _ t h in
    record { owner = p.owner; from = p.from; event = p.event; to = p.to; guard = guard_coded _ _ t h; updates = c.updates_at.ensures.are t h }
