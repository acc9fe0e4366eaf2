use Rattle.std.proofs.Common.{sym, ap, ◌∙◌}
use Rattle.scan.specs.Scan.{bad}
use Rattle.expr.specs.Expr.{guard, term}
use Rattle.scan.proofs.Runs.{passed_on}
use Rattle.expr.proofs.Scans.{at_none, no_byte, truth_read, unknown_guard, unknown_term, not_read, join_bad, join_read, test_bad, test_read, sum_bad, sum_read, case_bad, case_then_bad, case_read, literal_stops, literal_stops_later, literal_read, variable_stops, variable_read, variable_far}
use Rattle.expr.proofs.check.+end.Goals as goal

pub GuardCheck::end-returns-in_err-b-clause-says : goal.GuardCheck::end-returns-in_err-b-clause-says
GuardCheck::end-returns-in_err-b-clause-says t c =
    passed_on _ _ _ _ c.from_residual.ensures.1 (no_byte _ _ _ guard _ _ _ _ c.requires.0 c.in_err-b.ensures)

pub GuardCheck::end-returns-then-depth-eq0-clause-says : goal.GuardCheck::end-returns-then-depth-eq0-clause-says
GuardCheck::end-returns-then-depth-eq0-clause-says t c =
    record { agree = at_none _ _ _ guard _ _ _ _ c.if-depth-eq0.true c.in_ok-b.ensures ∙ ap bad (sym c.broken.ensures) }

pub GuardCheck::end-returns-in-None-clause-says : goal.GuardCheck::end-returns-in-None-clause-says
GuardCheck::end-returns-in-None-clause-says t c =
    record { agree = unknown_guard _ _ _ _ _ _ _ c.if-depth-eq0.false c.in_ok-b.ensures c.in-None.ensures ∙ ap bad (sym c.broken-in-None.ensures) }

pub TermCheck::end-returns-in_err-b-clause-says : goal.TermCheck::end-returns-in_err-b-clause-says
TermCheck::end-returns-in_err-b-clause-says t c =
    passed_on _ _ _ _ c.from_residual.ensures.1 (no_byte _ _ _ term _ _ _ _ c.requires.0 c.in_err-b.ensures)

pub TermCheck::end-returns-then-depth-eq0-clause-says : goal.TermCheck::end-returns-then-depth-eq0-clause-says
TermCheck::end-returns-then-depth-eq0-clause-says t c =
    record { agree = at_none _ _ _ term _ _ _ _ c.if-depth-eq0.true c.in_ok-b.ensures ∙ ap bad (sym c.broken.ensures) }

pub TermCheck::end-returns-in-None-clause-says : goal.TermCheck::end-returns-in-None-clause-says
TermCheck::end-returns-in-None-clause-says t c =
    record { agree = unknown_term _ _ _ _ _ _ _ c.if-depth-eq0.false c.in_ok-b.ensures c.in-None.ensures ∙ ap bad (sym c.broken-in-None.ensures) }

pub GuardCheck::end-returns-in-Some-Truth-clause-says : goal.GuardCheck::end-returns-in-Some-Truth-clause-says
GuardCheck::end-returns-in-Some-Truth-clause-says t c =
    let is = rw c.in-Some-Truth.field-0-is at c.in-Some-Truth.ensures in
    truth_read _ _ _ _ _ _ _ c.if-depth-eq0.false c.in_ok-b.ensures _ is

pub GuardCheck::end-returns-in-Some-Not-clause-says : goal.GuardCheck::end-returns-in-Some-Not-clause-says
GuardCheck::end-returns-in-Some-Not-clause-says t c =
    let is = rw c.in-Some-Not.field-0-is at c.in-Some-Not.ensures in
    not_read _ _ _ _ _ _ _ c.if-depth-eq0.false c.in_ok-b.ensures _ is c.end.ensures.says

pub GuardCheck::end-returns-in_err-next-in-Some-Join-clause-says : goal.GuardCheck::end-returns-in_err-next-in-Some-Join-clause-says
GuardCheck::end-returns-in_err-next-in-Some-Join-clause-says t c =
    let is = rw c.in-Some-Join.field-0-is at c.in-Some-Join.ensures in
    passed_on _ _ _ _ c.from_residual-in_err-next-in-Some-Join.ensures.1 (join_bad _ _ _ _ _ _ _ c.if-depth-eq0.false c.in_ok-b.ensures _ _ is c.in_err-next-in-Some-Join.ensures.says)

pub GuardCheck::end-returns-in_ok-next-in-Some-Join-clause-says : goal.GuardCheck::end-returns-in_ok-next-in-Some-Join-clause-says
GuardCheck::end-returns-in_ok-next-in-Some-Join-clause-says t c =
    let is = rw c.in-Some-Join.field-0-is at c.in-Some-Join.ensures in
    join_read _ _ _ _ _ _ _ c.if-depth-eq0.false c.in_ok-b.ensures _ _ _ is c.in_ok-next-in-Some-Join.ensures.says c.end-in-Some-Join-2.ensures.says

pub GuardCheck::end-returns-in_err-next-in-Some-Test-clause-says : goal.GuardCheck::end-returns-in_err-next-in-Some-Test-clause-says
GuardCheck::end-returns-in_err-next-in-Some-Test-clause-says t c =
    let is = rw c.in-Some-Test.field-0-is at c.in-Some-Test.ensures in
    passed_on _ _ _ _ c.from_residual-in_err-next-in-Some-Test.ensures.1 (test_bad _ _ _ _ _ _ _ c.if-depth-eq0.false c.in_ok-b.ensures _ _ is c.in_err-next-in-Some-Test.ensures.says)

pub GuardCheck::end-returns-in_ok-next-in-Some-Test-clause-says : goal.GuardCheck::end-returns-in_ok-next-in-Some-Test-clause-says
GuardCheck::end-returns-in_ok-next-in-Some-Test-clause-says t c =
    let is = rw c.in-Some-Test.field-0-is at c.in-Some-Test.ensures in
    test_read _ _ _ _ _ _ _ c.if-depth-eq0.false c.in_ok-b.ensures _ _ _ is c.in_ok-next-in-Some-Test.ensures.says c.end-in-Some-Test-2.ensures.says

pub TermCheck::end-returns-in_err-next-in-Some-Sum-clause-says : goal.TermCheck::end-returns-in_err-next-in-Some-Sum-clause-says
TermCheck::end-returns-in_err-next-in-Some-Sum-clause-says t c =
    let is = rw c.in-Some-Sum.field-0-is at c.in-Some-Sum.ensures in
    passed_on _ _ _ _ c.from_residual-in_err-next-in-Some-Sum.ensures.1 (sum_bad _ _ _ _ _ _ _ c.if-depth-eq0.false c.in_ok-b.ensures _ _ is c.in_err-next-in-Some-Sum.ensures.says)

pub TermCheck::end-returns-in_ok-next-in-Some-Sum-clause-says : goal.TermCheck::end-returns-in_ok-next-in-Some-Sum-clause-says
TermCheck::end-returns-in_ok-next-in-Some-Sum-clause-says t c =
    let is = rw c.in-Some-Sum.field-0-is at c.in-Some-Sum.ensures in
    sum_read _ _ _ _ _ _ _ c.if-depth-eq0.false c.in_ok-b.ensures _ _ _ is c.in_ok-next-in-Some-Sum.ensures.says c.end-in-Some-Sum.ensures.says

pub TermCheck::end-returns-in_err-first-in-Some-Case-clause-says : goal.TermCheck::end-returns-in_err-first-in-Some-Case-clause-says
TermCheck::end-returns-in_err-first-in-Some-Case-clause-says t c =
    let is = rw c.in-Some-Case.field-0-is at c.in-Some-Case.ensures in
    passed_on _ _ _ _ c.from_residual-in_err-first-in-Some-Case.ensures.1 (case_bad _ _ _ _ _ _ _ c.if-depth-eq0.false c.in_ok-b.ensures _ is c.in_err-first-in-Some-Case.ensures.says)

pub TermCheck::end-returns-in_err-next-in-Some-Case-clause-says : goal.TermCheck::end-returns-in_err-next-in-Some-Case-clause-says
TermCheck::end-returns-in_err-next-in-Some-Case-clause-says t c =
    let is = rw c.in-Some-Case.field-0-is at c.in-Some-Case.ensures in
    passed_on _ _ _ _ c.from_residual-in_err-next-in-Some-Case.ensures.1 (case_then_bad _ _ _ _ _ _ _ c.if-depth-eq0.false c.in_ok-b.ensures _ _ is c.in_ok-first-in-Some-Case.ensures.says c.in_err-next-in-Some-Case.ensures.says)

pub TermCheck::end-returns-in_ok-next-in-Some-Case-clause-says : goal.TermCheck::end-returns-in_ok-next-in-Some-Case-clause-says
TermCheck::end-returns-in_ok-next-in-Some-Case-clause-says t c =
    let is = rw c.in-Some-Case.field-0-is at c.in-Some-Case.ensures in
    case_read _ _ _ _ _ _ _ c.if-depth-eq0.false c.in_ok-b.ensures _ _ _ is c.in_ok-first-in-Some-Case.ensures.says c.in_ok-next-in-Some-Case.ensures.says c.end-in-Some-Case-3.ensures.says

pub TermCheck::end-returns-in_err-next_byte-in-Some-Literal-clause-says : goal.TermCheck::end-returns-in_err-next_byte-in-Some-Literal-clause-says
TermCheck::end-returns-in_err-next_byte-in-Some-Literal-clause-says t c =
    let is = rw c.in-Some-Literal.field-0-is at c.in-Some-Literal.ensures in
    passed_on _ _ _ _ c.from_residual-in_err-next_byte-in-Some-Literal.ensures.1 (literal_stops _ _ _ _ _ _ _ c.if-depth-eq0.false c.in_ok-b.ensures _ is c.in_err-next_byte-in-Some-Literal.ensures)

pub TermCheck::end-returns-in_err-next_byte-in-Some-Literal-2-clause-says : goal.TermCheck::end-returns-in_err-next_byte-in-Some-Literal-2-clause-says
TermCheck::end-returns-in_err-next_byte-in-Some-Literal-2-clause-says t c =
    let is = rw c.in-Some-Literal.field-0-is at c.in-Some-Literal.ensures in
    passed_on _ _ _ _ c.from_residual-in_err-next_byte-in-Some-Literal-2.ensures.1 (literal_stops_later _ _ _ _ _ _ _ c.if-depth-eq0.false c.in_ok-b.ensures _ _ is c.in_ok-next_byte-in-Some-Literal.ensures c.in_err-next_byte-in-Some-Literal-2.ensures)

pub TermCheck::end-returns-in_ok-next_byte-in-Some-Literal-2-clause-says : goal.TermCheck::end-returns-in_ok-next_byte-in-Some-Literal-2-clause-says
TermCheck::end-returns-in_ok-next_byte-in-Some-Literal-2-clause-says t c =
    let is = rw c.in-Some-Literal.field-0-is at c.in-Some-Literal.ensures in
    let h = c.in_ok-next_byte-in-Some-Literal-2.ensures in
    literal_read _ _ _ _ _ _ _ c.if-depth-eq0.false c.in_ok-b.ensures _ _ is c.in_ok-next_byte-in-Some-Literal.ensures h

pub TermCheck::end-returns-in_err-v-in-Some-Variable-clause-says : goal.TermCheck::end-returns-in_err-v-in-Some-Variable-clause-says
TermCheck::end-returns-in_err-v-in-Some-Variable-clause-says t c =
    let is = rw c.in-Some-Variable.field-0-is at c.in-Some-Variable.ensures in
    passed_on _ _ _ _ c.from_residual-in_err-v-in-Some-Variable.ensures.1 (variable_stops _ _ _ _ _ _ _ c.if-depth-eq0.false c.in_ok-b.ensures _ is c.in_err-v-in-Some-Variable.ensures)

pub TermCheck::end-returns-then-v-checker-clause-says : goal.TermCheck::end-returns-then-v-checker-clause-says
TermCheck::end-returns-then-v-checker-clause-says t c =
    let is = rw c.in-Some-Variable.field-0-is at c.in-Some-Variable.ensures in
    let h = c.in_ok-v-in-Some-Variable.ensures in
    variable_read _ _ _ _ _ _ _ c.if-depth-eq0.false c.in_ok-b.ensures _ is h c.if-v-checker.true

pub TermCheck::end-returns-else-v-checker-clause-says : goal.TermCheck::end-returns-else-v-checker-clause-says
TermCheck::end-returns-else-v-checker-clause-says t c =
    let is = rw c.in-Some-Variable.field-0-is at c.in-Some-Variable.ensures in
    record { agree = variable_far _ _ _ _ _ _ _ c.if-depth-eq0.false c.in_ok-b.ensures _ is c.in_ok-v-in-Some-Variable.ensures c.if-v-checker.false ∙ ap bad (sym c.broken-else-v-checker.ensures) }
