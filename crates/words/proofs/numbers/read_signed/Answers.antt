use Rattle.words.proofs.Signs.{negative_none, negative_zero}
use Rattle.words.proofs.numbers.read_signed.Goals as goal

pub returns-in_err-n : goal.returns-in_err-n
returns-in_err-n c = rw c.from_residual.ensures (negative_none _ _ c.min-most.ensures _ _ c.in-Some.ensures c.in_err-n.ensures)

pub returns-then-n-eq0 : goal.returns-then-n-eq0
returns-then-n-eq0 c = negative_zero _ _ c.min-most.ensures _ _ c.in-Some.ensures _ _ c.in_ok-n.ensures c.if-n-eq0.true
