use Rattle.std.proofs.Common.{◌≡◌, ◌+◌, ◌*◌, ap, ◌∙◌, arith}
use Rattle.scan.proofs.Runs.{passed_on, answers}
use Rattle.scan.proofs.Loops.{going_all}
use Rattle.system.proofs.Sections.{variables_bad, variables_begin, variable_bad, variable_read}
use Rattle.system.proofs.variables.check_variables.Goals as goal

pub returns-in_err-variables-clause-says : goal.returns-in_err-variables-clause-says
returns-in_err-variables-clause-says c =
    passed_on _ _ _ _ c.from_residual.ensures.1 (variables_bad _ _ _ _ c.count_of-origin.ensures c.in_err-variables.ensures.says)

pub loop-k-init : goal.loop-k-init
loop-k-init c =
    let h = c.in_ok-variables.ensures.within in
    (variables_begin _ _ _ _ c.count_of-origin.ensures c.in_ok-variables.ensures.says, omega arith, h.2)

pub returns-in_err-check_variable-clause-says : goal.returns-in_err-check_variable-clause-says
returns-in_err-check_variable-clause-says c =
    passed_on _ _ _ _ c.from_residual-in_err-check_variable.ensures.1 (variable_bad _ _ _ _ _ _ c.loop-k-test.true c.row_after-origin.ensures c.loop-k.invariant.0 c.in_err-check_variable.ensures.says.agree)

pub loop-k-preserved : goal.loop-k-preserved
loop-k-preserved c =
    let h = c.in_ok-check_variable.ensures in
    let w = h.says.agree in
    (variable_read _ _ _ _ _ _ _ c.loop-k-test.true c.row_after-origin.ensures c.loop-k.invariant.0 w.is w.holds, omega (arith, h.within), c.loop-k.invariant.2)

pub returns-clause-says : goal.returns-clause-says
returns-clause-says c =
    let same : c.loop-k.k ≡ c.in_ok-variables.variables = omega (arith, c.loop-k.auto.k-end) in
    let g = c.loop-k.invariant.0 in
    answers _ _ _ _ _ (going_all _ _ _ _ _ _ _ c.loop-k-test.false g) (g.count ∙ same, ap (λ n. c.args.at + 1 + 10 * n) same)
