use Rattle.std.proofs.Common.{rules, true}
use Rattle.expr.specs.Expr.{truth}
use Rattle.clash.proofs.keep_on_clash.KeepOnClashEqualValues.guard.Goals as goal

pub invariant_of-result : goal.invariant_of-result
invariant_of-result c = record { coded = ∣ ((truth true), search rules) ∣₁ }
