use Rattle.std.proofs.Common.{arith}
use Rattle.words.proofs.Decimal.{one_more, front_small}
use Rattle.words.proofs.numbers.value_of.Goals as goal

pub overflow_mul-value : goal.overflow_mul-value
overflow_mul-value c = let small = front_small _ c.requires.digits c.loop-b.b-index (omega arith) in omega (arith, small, c.loop-b.invariant)

pub overflow_add-value : goal.overflow_add-value
overflow_add-value c = let small = front_small _ c.requires.digits c.loop-b.b-index (omega arith) in omega (arith, small, c.loop-b.invariant)

pub loop-b-preserved : goal.loop-b-preserved
loop-b-preserved c = let e = one_more _ c.requires.digits _ _ c.loop-b-test.true c.loop-b.invariant in omega (arith, e)
