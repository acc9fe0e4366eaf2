use Rattle.std.proofs.Common.{arith}
use Rattle.std.proofs.lemmas.Bool.Decides.{nat_tests}
use Rattle.words.proofs.Decimal.{no_digits, too_long, zero_led, too_large, a_number}
use Rattle.words.proofs.numbers.read_number.Goals as goal
use Rattle.words.proofs.numbers.read_number.Goals.{then-is_empty-via-then-is_empty, then-is_empty-via-else-is_empty+then-digits-gt10, else-digits-eq48-via-then-digits-eq48+else-digits-gt1, else-digits-eq48-via-else-digits-eq48}

pub returns-then-is_empty : goal.returns-then-is_empty
returns-then-is_empty c = elim c.then-is_empty.branch [
  | then-is_empty-via-then-is_empty w ↦ no_digits _ _ _ c.split_digits.ensures _ (omega arith) (let none = w.if-is_empty.true in let is = c.is_empty.ensures in grind (arith, nat_tests))
  | then-is_empty-via-else-is_empty+then-digits-gt10 w ↦ too_long _ _ _ c.split_digits.ensures _ (omega arith) (omega (arith, w.if-digits-gt10.true))
]

pub returns-then-digits-gt1 : goal.returns-then-digits-gt1
returns-then-digits-gt1 c = zero_led _ _ _ c.split_digits.ensures _ (omega arith) (omega arith) (omega arith)

pub returns-then-value-max : goal.returns-then-value-max
returns-then-value-max c = too_large _ _ _ c.split_digits.ensures _ (omega arith) _ c.value_of-value.ensures (omega arith)

pub returns : goal.returns
returns c =
    a_number _ _ _ c.split_digits.ensures _ (omega arith) _ c.value_of-value.ensures (let some = c.if-is_empty.false in let is = c.is_empty.ensures in grind (arith, nat_tests))
    (λ zero. elim c.else-digits-eq48.branch [
      | else-digits-eq48-via-then-digits-eq48+else-digits-gt1 w ↦ let some = c.if-is_empty.false in let is = c.is_empty.ensures in grind (arith, nat_tests)
      | else-digits-eq48-via-else-digits-eq48 w ↦ absurd (w.if-digits-eq48.false zero)
    ])
    (omega arith)
