use Rattle.std.proofs.Common.{◌≡◌, ℕ, ◌<◌, ◌≤◌, false}
use Rattle.number_sets.specs.Sets.{holds}
use Rattle.number_sets.proofs.numbers.Numbers.from_fn.Given as goal

abbrev pub invariant-loop-n : goal.invariant-loop-n
invariant-loop-n g l = record {
  tested : (k : ℕ) → k < l.n → goal.F-post g l.test k (holds l.numbers k);
  others : (k : ℕ) → l.n ≤ k → holds l.numbers k ≡ false;
}
