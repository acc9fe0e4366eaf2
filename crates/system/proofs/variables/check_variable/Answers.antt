use Rattle.std.proofs.Common.{◌≡◌, ◌+◌, sym, refl, ap, ◌∙◌, arith, w16, to_z, of_z, rules}
use Rattle.scan.specs.Scan.{bad}
use Rattle.scan.proofs.Runs.{passed_on, answers}
use Rattle.system.specs.Scan.{variable_row}
use Rattle.system.proofs.Sections.{value_fails, value_then, passed_values, ruled_read, ruled_bad}
use Rattle.system.proofs.variables.check_variable.Goals as goal

pub returns-in_err-low-clause-says : goal.returns-in_err-low-clause-says
unfolding variable_row
returns-in_err-low-clause-says c =
    passed_on _ _ _ _ c.from_residual.ensures.1 (value_fails _ _ _ _ _ c.in_err-low.ensures.says)

pub returns-in_err-high-clause-says : goal.returns-in_err-high-clause-says
unfolding variable_row
returns-in_err-high-clause-says c =
    passed_on _ _ _ _ c.from_residual-in_err-high.ensures.1 (value_then _ _ _ _ _ _ (omega arith) c.in_ok-low.ensures.says ∙ value_fails _ _ _ _ _ c.in_err-high.ensures.says)

pub returns-in_err-start-clause-says : goal.returns-in_err-start-clause-says
unfolding variable_row
returns-in_err-start-clause-says c =
    passed_on _ _ _ _ c.from_residual-in_err-start.ensures.1 (value_then _ _ _ _ _ _ (omega arith) c.in_ok-low.ensures.says ∙ value_then _ _ _ _ _ _ (omega arith) c.in_ok-high.ensures.says ∙ value_fails _ _ _ _ _ c.in_err-start.ensures.says)

pub returns-in_err-marked_low-clause-says : goal.returns-in_err-marked_low-clause-says
unfolding variable_row
returns-in_err-marked_low-clause-says c =
    passed_on _ _ _ _ c.from_residual-in_err-marked_low.ensures.1 (value_then _ _ _ _ _ _ (omega arith) c.in_ok-low.ensures.says ∙ value_then _ _ _ _ _ _ (omega arith) c.in_ok-high.ensures.says ∙ value_then _ _ _ _ _ _ (omega arith) c.in_ok-start.ensures.says ∙ value_fails _ _ _ _ _ c.in_err-marked_low.ensures.says)

pub returns-in_err-marked_high-clause-says : goal.returns-in_err-marked_high-clause-says
unfolding variable_row
returns-in_err-marked_high-clause-says c =
    passed_on _ _ _ _ c.from_residual-in_err-marked_high.ensures.1 (value_then _ _ _ _ _ _ (omega arith) c.in_ok-low.ensures.says ∙ value_then _ _ _ _ _ _ (omega arith) c.in_ok-high.ensures.says ∙ value_then _ _ _ _ _ _ (omega arith) c.in_ok-start.ensures.says ∙ value_then _ _ _ _ _ _ (omega arith) c.in_ok-marked_low.ensures.says ∙ value_fails _ _ _ _ _ c.in_err-marked_high.ensures.says)

pub returns-then-in_order-clause-says : goal.returns-then-in_order-clause-says
unfolding variable_row
returns-then-in_order-clause-says c =
    let low_same : to_z w16 (of_z w16 c.in_ok-low.low) ≡ c.in_ok-low.low = search rules in
    let high_same : to_z w16 (of_z w16 c.in_ok-high.high) ≡ c.in_ok-high.high = search rules in
    let start-same : to_z w16 (of_z w16 c.in_ok-start.start) ≡ c.in_ok-start.start = search rules in
    let marked-low-same : to_z w16 (of_z w16 c.in_ok-marked_low.marked_low) ≡ c.in_ok-marked_low.marked_low = search rules in
    let marked-high-same : to_z w16 (of_z w16 c.in_ok-marked_high.marked_high) ≡ c.in_ok-marked_high.marked_high = search rules in
    answers _ _ _ _ (c.args.at + 10) (value_then _ _ _ _ _ (c.args.at + 2) (omega arith) c.in_ok-low.ensures.says
    ∙ value_then _ _ _ _ _ (c.args.at + 4) (omega arith) c.in_ok-high.ensures.says
    ∙ value_then _ _ _ _ _ (c.args.at + 6) (omega arith) c.in_ok-start.ensures.says
    ∙ value_then _ _ _ _ _ (c.args.at + 8) (omega arith) c.in_ok-marked_low.ensures.says
    ∙ value_then _ _ _ _ _ (c.args.at + 10) (omega arith) c.in_ok-marked_high.ensures.says
    ∙ ruled_read _ _ _ _ (passed_values _ _ _ _ _ low_same high_same start-same marked-low-same marked-high-same ∙ sym c.in_order.ensures ∙ c.if-in_order.true)) refl

pub returns-else-in_order-clause-says : goal.returns-else-in_order-clause-says
unfolding variable_row
returns-else-in_order-clause-says c =
    let low_same : to_z w16 (of_z w16 c.in_ok-low.low) ≡ c.in_ok-low.low = search rules in
    let high_same : to_z w16 (of_z w16 c.in_ok-high.high) ≡ c.in_ok-high.high = search rules in
    let start-same : to_z w16 (of_z w16 c.in_ok-start.start) ≡ c.in_ok-start.start = search rules in
    let marked-low-same : to_z w16 (of_z w16 c.in_ok-marked_low.marked_low) ≡ c.in_ok-marked_low.marked_low = search rules in
    let marked-high-same : to_z w16 (of_z w16 c.in_ok-marked_high.marked_high) ≡ c.in_ok-marked_high.marked_high = search rules in
    record {
      agree = value_then _ _ _ _ _ (c.args.at + 2) (omega arith) c.in_ok-low.ensures.says
          ∙ value_then _ _ _ _ _ (c.args.at + 4) (omega arith) c.in_ok-high.ensures.says
          ∙ value_then _ _ _ _ _ (c.args.at + 6) (omega arith) c.in_ok-start.ensures.says
          ∙ value_then _ _ _ _ _ (c.args.at + 8) (omega arith) c.in_ok-marked_low.ensures.says
          ∙ value_then _ _ _ _ _ (c.args.at + 10) (omega arith) c.in_ok-marked_high.ensures.says
          ∙ ruled_bad _ _ _ _ (c.args.at + 9) (omega arith) (passed_values _ _ _ _ _ low_same high_same start-same marked-low-same marked-high-same ∙ sym c.in_order.ensures ∙ c.if-in_order.false) ∙ ap bad (sym c.broken.ensures);
    }
