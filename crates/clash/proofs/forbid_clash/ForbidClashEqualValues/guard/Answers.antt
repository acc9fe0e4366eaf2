use Rattle.std.proofs.Common.{rules, pos}
use Rattle.expr.specs.Expr.{test, variable, literal}
use Rattle.expr.specs.declared.code.Order.TheVariants.{Ne}
use Rattle.clash.proofs.forbid_clash.ForbidClashEqualValues.guard.Goals as goal

pub invariant_of-result : goal.invariant_of-result
invariant_of-result c = record { coded = ∣ ((test Ne (variable 0) (literal (pos 2))), search rules) ∣₁ }
