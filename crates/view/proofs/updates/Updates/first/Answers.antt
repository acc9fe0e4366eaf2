use Rattle.std.proofs.Common.{pos}
use Rattle.expr.specs.Expr.{literal}
use Rattle.view.proofs.UpdateParts.{zero_coded}
use Rattle.view.proofs.updates.Updates.first.Goals as goal

pub invariant_of-result : goal.invariant_of-result
invariant_of-result c = record { coded = ∣ (literal (pos 0), zero_coded) ∣₁ }
