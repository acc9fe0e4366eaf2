use Rattle.std.proofs.Common.{true}
use Rattle.expr.specs.Expr.{truth}
use Rattle.view.proofs.RowParts.{true_coded}
use Rattle.view.proofs.rows.Rows.first.Goals as goal

pub invariant_of-result : goal.invariant_of-result
invariant_of-result c = record { coded = ∣ (truth true, true_coded) ∣₁ }
