use Rattle.expr.proofs.check.+end.Given as goal

abbrev pub decreases-GuardCheck::end : goal.decreases-GuardCheck::end
decreases-GuardCheck::end l = l.depth

abbrev pub decreases-TermCheck::end : goal.decreases-TermCheck::end
decreases-TermCheck::end l = l.depth
