use Rattle.std.proofs.Common.{arith}
use Rattle.words.proofs.Signs.{minus_zero, minus_open}
use Rattle.words.proofs.numbers.read_minus.Goals as goal

pub returns-then-n-eq0 : goal.returns-then-n-eq0
returns-then-n-eq0 c = minus_zero _ (omega arith) _ _ _ c.in_ok-n.ensures c.if-n-eq0.true

pub returns-in_err-expect : goal.returns-in_err-expect
returns-in_err-expect c = rw c.from_residual-in_err-expect.ensures (minus_open _ (omega arith) _ _ _ c.in_ok-n.ensures c.in_err-expect.ensures)
