use Rattle.std.proofs.Common.{arith}
use Rattle.expr.specs.Text.{joint_text, order_text, sign_text}
use Rattle.expr.proofs.Places.{join_two, test_two, sum_two, two_first, two_second, two_spans, not_first, not_spans, truth_spans, literal_within, literal_spans, variable_within, variable_spans, case_first, case_second, case_third, case_spans}
use Rattle.expr.proofs.Prints.{put_between, put_not, put_case_lem, put_literal}
use Rattle.expr.proofs.print.+put_guard_put_term.Goals as goal

pub put_guard-put_guard-end-requires : goal.put_guard-put_guard-end-requires
put_guard-put_guard-end-requires g t c κs within =
    (omega arith, (within.0, (within.1, (c.requires.long, not_first _ _ c.in-Not.ensures c.requires.standing))))

pub put_guard-put_guard-next-requires : goal.put_guard-put_guard-next-requires
put_guard-put_guard-next-requires g t c κs within =
    (omega arith, (within.0, (within.1, (c.requires.long, two_first _ _ _ (join_two _ _ _ c.in-Join.ensures) c.requires.standing))))

pub put_guard-put_guard-end-requires-in-Join : goal.put_guard-put_guard-end-requires-in-Join
put_guard-put_guard-end-requires-in-Join g t c κs within =
    (omega arith, (within.0, (within.1, (c.requires.long, two_second _ _ _ (join_two _ _ _ c.in-Join.ensures) _ _ c.put_guard-next.ensures c.requires.standing))))

pub put_guard-put_term-next-requires : goal.put_guard-put_term-next-requires
put_guard-put_term-next-requires g t c κs within =
    (omega arith, (within.0, (within.1, (c.requires.long, two_first _ _ _ (test_two _ _ _ c.in-Test.ensures) c.requires.standing))))

pub put_guard-put_term-end-requires : goal.put_guard-put_term-end-requires
put_guard-put_term-end-requires g t c κs within =
    (omega arith, (within.0, (within.1, (c.requires.long, two_second _ _ _ (test_two _ _ _ c.in-Test.ensures) _ _ c.put_term-next.ensures c.requires.standing))))

pub put_guard-returns-in-Truth : goal.put_guard-returns-in-Truth
put_guard-returns-in-Truth g t c = truth_spans _ _ _ _ c.in-Truth.ensures c.requires.standing (rw c.truth_text.ensures at c.put_text.ensures)

pub put_guard-returns-in-Not : goal.put_guard-returns-in-Not
put_guard-returns-in-Not g t c =
    not_spans _ _ c.in-Not.ensures _ _ _ c.put_guard-end.ensures
    (λ x p. put_not g.S.Sink.step _ _ _ _ _ x c.put_text-in-Not.ensures p c.put_text-in-Not-2.ensures)

pub put_guard-returns-in-Join : goal.put_guard-returns-in-Join
put_guard-returns-in-Join g t c =
    two_spans _ _ _ (join_two _ _ _ c.in-Join.ensures) _ _ c.put_guard-next.ensures _ _ _ c.put_guard-end-in-Join.ensures
    (λ x y p q. put_between g.S.Sink.step _ _ (joint_text c.in-Join.joint) _ _ _ _ _ x y c.put_text-in-Join.ensures p (rw c.text.ensures at c.put_text-in-Join-2.ensures) q c.put_text-in-Join-3.ensures)

pub put_guard-returns-in-Test : goal.put_guard-returns-in-Test
put_guard-returns-in-Test g t c =
    two_spans _ _ _ (test_two _ _ _ c.in-Test.ensures) _ _ c.put_term-next.ensures _ _ _ c.put_term-end.ensures
    (λ x y p q. put_between g.S.Sink.step _ _ (order_text c.in-Test.order) _ _ _ _ _ x y c.put_text-in-Test.ensures p (rw c.text-in-Test.ensures at c.put_text-in-Test-2.ensures) q c.put_text-in-Test-3.ensures)

pub put_term-literal-requires : goal.put_term-literal-requires
put_term-literal-requires g t c = omega (arith, literal_within _ _ c.in-Literal.ensures c.requires.standing)

pub put_term-bounds-code-at : goal.put_term-bounds-code-at
put_term-bounds-code-at g t c = variable_within _ _ c.in-Variable.ensures c.requires.standing

pub put_term-put_term-next-requires : goal.put_term-put_term-next-requires
put_term-put_term-next-requires g t c κs within =
    (omega arith, (within.0, (within.1, (c.requires.long, two_first _ _ _ (sum_two _ _ _ c.in-Sum.ensures) c.requires.standing))))

pub put_term-put_term-end-requires : goal.put_term-put_term-end-requires
put_term-put_term-end-requires g t c κs within =
    (omega arith, (within.0, (within.1, (c.requires.long, two_second _ _ _ (sum_two _ _ _ c.in-Sum.ensures) _ _ c.put_term-next.ensures c.requires.standing))))

pub put_term-put_guard-first-requires : goal.put_term-put_guard-first-requires
put_term-put_guard-first-requires g t c κs within =
    (omega arith, (within.0, (within.1, (c.requires.long, case_first _ _ c.in-Case.ensures c.requires.standing))))

pub put_term-put_term-next-requires-in-Case : goal.put_term-put_term-next-requires-in-Case
put_term-put_term-next-requires-in-Case g t c κs within =
    (omega arith, (within.0, (within.1, (c.requires.long, case_second _ _ c.in-Case.ensures _ _ c.put_guard-first.ensures c.requires.standing))))

pub put_term-put_term-end-requires-in-Case : goal.put_term-put_term-end-requires-in-Case
put_term-put_term-end-requires-in-Case g t c κs within =
    (omega arith, (within.0, (within.1, (c.requires.long, case_third _ _ c.in-Case.ensures _ _ c.put_guard-first.ensures _ _ c.put_term-next-in-Case.ensures c.requires.standing))))

pub put_term-returns-in-Literal : goal.put_term-returns-in-Literal
put_term-returns-in-Literal g t c =
    literal_spans _ _ c.in-Literal.ensures _ c.requires.standing
    (put_literal g.S.Sink.step c.args.s.now _ c.literal.result _ (record { sfits = c.literal.type_inv }) c.put_value.ensures c.literal.ensures)

pub put_term-returns-in-Variable : goal.put_term-returns-in-Variable
put_term-returns-in-Variable g t c = variable_spans _ _ c.in-Variable.ensures _ c.requires.standing c.put_name.ensures

pub put_term-returns-in-Sum : goal.put_term-returns-in-Sum
put_term-returns-in-Sum g t c =
    two_spans _ _ _ (sum_two _ _ _ c.in-Sum.ensures) _ _ c.put_term-next.ensures _ _ _ c.put_term-end.ensures
    (λ x y p q. put_between g.S.Sink.step _ _ (sign_text c.in-Sum.sign) _ _ _ _ _ x y c.put_text.ensures p (rw c.text.ensures at c.put_text-in-Sum.ensures) q c.put_text-in-Sum-2.ensures)

pub put_term-returns-in-Case : goal.put_term-returns-in-Case
put_term-returns-in-Case g t c =
    case_spans _ _ c.in-Case.ensures _ _ c.put_guard-first.ensures _ _ c.put_term-next-in-Case.ensures _ _ _ c.put_term-end-in-Case.ensures
    (λ x y z p q r. put_case_lem g.S.Sink.step _ _ _ _ _ _ _ _ _ x y z c.put_text-in-Case.ensures p c.put_text-in-Case-2.ensures q c.put_text-in-Case-3.ensures r c.put_text-in-Case-4.ensures)
