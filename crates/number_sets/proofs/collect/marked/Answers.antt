use Rattle.std.proofs.Common.{eqb, get_or, rules}
use Rattle.number_sets.proofs.Below.{below}
use Rattle.number_sets.proofs.collect.marked.Goals as goal

pub returns : goal.returns
returns c k = below c.from_fn.result k (eqb (get_or c.args.marks.now k 0) 1) (λ small. let h = c.from_fn.ensures k small in search rules)
