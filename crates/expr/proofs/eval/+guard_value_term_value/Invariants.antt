use Rattle.std.proofs.Common.{◌-◌, length}
use Rattle.expr.proofs.eval.+guard_value_term_value.Given as goal

abbrev pub decreases-guard_value : goal.decreases-guard_value
decreases-guard_value l = length l.s.now - l.at

abbrev pub decreases-term_value : goal.decreases-term_value
decreases-term_value l = length l.s.now - l.at
