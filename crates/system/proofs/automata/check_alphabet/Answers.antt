use Rattle.std.proofs.Common.{◌≡◌, ◌+◌, ap, ◌∙◌, arith}
use Rattle.scan.proofs.Runs.{passed_on, answers}
use Rattle.scan.proofs.Loops.{going_all}
use Rattle.system.proofs.Sections.{alphabet_bad, alphabet_read}
use Rattle.system.proofs.automata.check_alphabet.Goals as goal

pub returns-in_err-e-clause-says : goal.returns-in_err-e-clause-says
returns-in_err-e-clause-says c =
    passed_on _ _ _ _ c.from_residual.ensures.1 (alphabet_bad _ _ _ _ _ _ _ _ c.loop-k-test.true c.loop-k.invariant.0 c.in_err-e.ensures.says)

pub loop-k-preserved : goal.loop-k-preserved
loop-k-preserved c =
    let h = c.in_ok-e.ensures in
    (alphabet_read _ _ _ _ _ _ _ _ c.loop-k-test.true c.loop-k.invariant.0 h.says h.within.2, omega (arith, h.within.0))

pub returns-clause-says : goal.returns-clause-says
returns-clause-says c =
    let same : c.loop-k.k ≡ c.args.size = omega (arith, c.loop-k.auto.k-end) in
    let g = c.loop-k.invariant.0 in
    answers _ _ _ _ _ (going_all _ _ _ _ _ _ _ c.loop-k-test.false g) (g.count ∙ same, ap (λ n. c.args.at + n) same)
