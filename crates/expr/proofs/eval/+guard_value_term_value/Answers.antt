use Rattle.std.proofs.Common.{not, refl, sym, ap, ◌∙◌, ap₂, arith}
use Rattle.expr.specs.Expr.{joined, tested, summed}
use Rattle.expr.proofs.Places.{join_two, test_two, sum_two, two_first, two_second, two_spans, not_first, not_spans, truth_spans, literal_within, literal_spans, variable_within, variable_spans, case_first, case_second, case_third, case_spans}
use Rattle.expr.proofs.Evals.{within-sum, within_more, same, term_done, literal_done}
use Rattle.expr.proofs.eval.+guard_value_term_value.Goals as goal

pub guard_value-guard_value-a-requires : goal.guard_value-guard_value-a-requires
guard_value-guard_value-a-requires t c = (omega arith, (c.requires.long, not_first _ _ c.in-Not.ensures c.requires.standing))

pub guard_value-guard_value-a-requires-in-Join : goal.guard_value-guard_value-a-requires-in-Join
guard_value-guard_value-a-requires-in-Join t c =
    (omega arith, (c.requires.long, two_first _ _ _ (join_two _ _ _ c.in-Join.ensures) c.requires.standing))

pub guard_value-guard_value-b-requires : goal.guard_value-guard_value-b-requires
guard_value-guard_value-b-requires t c =
    (omega arith, (c.requires.long, two_second _ _ _ (join_two _ _ _ c.in-Join.ensures) _ _ c.guard_value-a-in-Join.ensures c.requires.standing))

pub guard_value-term_value-a-requires : goal.guard_value-term_value-a-requires
guard_value-term_value-a-requires t c =
    (omega arith, (c.requires.long, two_first _ _ _ (test_two _ _ _ c.in-Test.ensures) c.requires.standing))

pub guard_value-term_value-b-requires : goal.guard_value-term_value-b-requires
guard_value-term_value-b-requires t c =
    (omega arith, (c.requires.long, two_second _ _ _ (test_two _ _ _ c.in-Test.ensures) _ _ c.term_value-a.ensures.spans c.requires.standing))

pub guard_value-returns-in-Truth : goal.guard_value-returns-in-Truth
guard_value-returns-in-Truth t c = truth_spans _ _ _ _ c.in-Truth.ensures c.requires.standing refl

pub guard_value-returns-in-Not : goal.guard_value-returns-in-Not
guard_value-returns-in-Not t c = not_spans _ _ c.in-Not.ensures _ _ _ c.guard_value-a.ensures (λ a p. ap not p)

pub guard_value-returns-in-Join : goal.guard_value-returns-in-Join
guard_value-returns-in-Join t c =
    two_spans _ _ _ (join_two _ _ _ c.in-Join.ensures) _ _ c.guard_value-a-in-Join.ensures _ _ _ c.guard_value-b.ensures
    (λ a b p q. c.join.ensures ∙ ap₂ (joined c.in-Join.joint) p q)

pub guard_value-returns-in-Test : goal.guard_value-returns-in-Test
guard_value-returns-in-Test t c =
    let one = c.term_value-a.ensures in
    let two = c.term_value-b.ensures in
    let a = same _ _ (omega (arith, one.spans.within)) one.bound in
    let b = same _ _ (omega (arith, two.spans.within)) two.bound in
    two_spans _ _ _ (test_two _ _ _ c.in-Test.ensures) _ _ one.spans _ _ _ two.spans
    (λ x y p q. c.test.ensures ∙ ap₂ (tested c.in-Test.order) (a ∙ p) (b ∙ q))

pub term_value-literal-requires : goal.term_value-literal-requires
term_value-literal-requires t c = omega (arith, literal_within _ _ c.in-Literal.ensures c.requires.standing)

pub term_value-bounds-s-at : goal.term_value-bounds-s-at
term_value-bounds-s-at t c = variable_within _ _ c.in-Variable.ensures c.requires.standing

pub term_value-term_value-a-requires : goal.term_value-term_value-a-requires
term_value-term_value-a-requires t c =
    (omega arith, (c.requires.long, two_first _ _ _ (sum_two _ _ _ c.in-Sum.ensures) c.requires.standing))

pub term_value-term_value-b-requires : goal.term_value-term_value-b-requires
term_value-term_value-b-requires t c =
    (omega arith, (c.requires.long, two_second _ _ _ (sum_two _ _ _ c.in-Sum.ensures) _ _ c.term_value-a.ensures.spans c.requires.standing))

pub term_value-guard_value-g-requires : goal.term_value-guard_value-g-requires
term_value-guard_value-g-requires t c = (omega arith, (c.requires.long, case_first _ _ c.in-Case.ensures c.requires.standing))

pub term_value-term_value-a-requires-in-Case : goal.term_value-term_value-a-requires-in-Case
term_value-term_value-a-requires-in-Case t c =
    (omega arith, (c.requires.long, case_second _ _ c.in-Case.ensures _ _ c.guard_value-g.ensures c.requires.standing))

pub term_value-term_value-b-requires-in-Case : goal.term_value-term_value-b-requires-in-Case
term_value-term_value-b-requires-in-Case t c =
    (omega arith, (c.requires.long, case_third _ _ c.in-Case.ensures _ _ c.guard_value-g.ensures _ _ c.term_value-a-in-Case.ensures.spans c.requires.standing))

pub term_value-returns-in-Literal : goal.term_value-returns-in-Literal
term_value-returns-in-Literal t c =
    literal_done _ _ c.requires.long _ _ c.literal.result (record { sfits = c.literal.type_inv }) (omega arith)
    (literal_spans _ _ c.in-Literal.ensures _ c.requires.standing c.literal.ensures)

pub term_value-returns-in-Variable : goal.term_value-returns-in-Variable
term_value-returns-in-Variable t c =
    term_done _ _ c.requires.long _ _ _
    (variable_spans _ _ c.in-Variable.ensures _ c.requires.standing c.variable.ensures.value)
    (within_more 2 _ _ c.variable.ensures.bound (omega arith))

pub term_value-returns-in-Sum : goal.term_value-returns-in-Sum
term_value-returns-in-Sum t c =
    let one = c.term_value-a.ensures in
    let two = c.term_value-b.ensures in
    let a = same _ _ (omega (arith, one.spans.within)) one.bound in
    let b = same _ _ (omega (arith, two.spans.within)) two.bound in
    let is = c.sum.ensures ∙ ap₂ (summed c.in-Sum.sign) a b in
    term_done _ _ c.requires.long _ _ _
    (two_spans _ _ _ (sum_two _ _ _ c.in-Sum.ensures) _ _ one.spans _ _ _ two.spans (λ x y p q. is ∙ ap₂ (summed c.in-Sum.sign) p q))
    (rw is (within-sum _ _ _ _ _ _ one.bound two.bound (omega (arith, one.spans.past, two.spans.past))))

pub term_value-returns-then-g-clause-spans : goal.term_value-returns-then-g-clause-spans
term_value-returns-then-g-clause-spans t c =
    let one = c.term_value-a-in-Case.ensures in
    let a = same _ _ (omega (arith, one.spans.within)) one.bound in
    case_spans _ _ c.in-Case.ensures _ _ c.guard_value-g.ensures _ _ one.spans _ _ _ c.term_value-b-in-Case.ensures.spans
    (λ g x y o p q. rw (sym o ∙ c.if-g.true) (a ∙ p))

pub term_value-returns-else-g-clause-spans : goal.term_value-returns-else-g-clause-spans
term_value-returns-else-g-clause-spans t c =
    let two = c.term_value-b-in-Case.ensures in
    let b = same _ _ (omega (arith, two.spans.within)) two.bound in
    case_spans _ _ c.in-Case.ensures _ _ c.guard_value-g.ensures _ _ c.term_value-a-in-Case.ensures.spans _ _ _ two.spans
    (λ g x y o p q. rw (sym o ∙ c.if-g.false) (b ∙ q))
