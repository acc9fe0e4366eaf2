use Rattle.std.proofs.Common.{◌-◌, length}
use Rattle.expr.proofs.print.+put_guard_put_term.Given as goal

abbrev pub decreases-put_guard : goal.decreases-put_guard
decreases-put_guard g l = length l.code.now - l.at

abbrev pub decreases-put_term : goal.decreases-put_term
decreases-put_term g l = length l.code.now - l.at
