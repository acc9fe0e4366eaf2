use Rattle.std.proofs.Common.{rules, arith}
use Rattle.std.proofs.lemmas.Bool.Decides.{nat_tests}
use Rattle.std.proofs.lemmas.Iterator.{IsFirst-from_position, YieldsList-from_slice}
use Rattle.words.specs.Digits.{Digit}
use Rattle.words.proofs.Decimal.{run_to}
use Rattle.words.proofs.numbers.split_digits.Goals as goal

pub returns : goal.returns
returns c =
    let first = IsFirst-from_position _ _ c.position-end.result (λ b. Digit b → ⊥) Digit c.position-end.ensures.ran (YieldsList-from_slice c.args.text.now cc) (λ x q k. λ d. let l = d.low in let h = d.high in grind (arith, nat_tests)) (λ x q k. (search rules, record { low = grind (arith, nat_tests); high = grind (arith, nat_tests) })) in
    let r = run_to c.args.text.now c.position-end.result first in
    rw (c.split_at.ensures.front, c.split_at.ensures.back, c.unwrap_or.ensures) r
