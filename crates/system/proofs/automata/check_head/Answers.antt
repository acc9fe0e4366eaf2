use Rattle.std.proofs.Common.{◌+◌, refl, ◌∙◌, arith}
use Rattle.scan.proofs.Runs.{passed_on, answers, says_by, run-done, byte_bad, byte_then}
use Rattle.system.specs.Scan.{head_row}
use Rattle.system.proofs.Sections.{bytes_bad, bytes_read, bytes_pass}
use Rattle.system.proofs.automata.check_head.Goals as goal

pub returns-in_err-zero_or_one-clause-says : goal.returns-in_err-zero_or_one-clause-says
unfolding head_row
returns-in_err-zero_or_one-clause-says c =
    passed_on _ _ _ _ c.from_residual.ensures.1 (byte_bad _ _ _ _ _ c.in_err-zero_or_one.ensures.says)

pub returns-in_err-locations-clause-says : goal.returns-in_err-locations-clause-says
unfolding head_row
returns-in_err-locations-clause-says c =
    passed_on _ _ _ _ c.from_residual-in_err-locations.ensures.1 (byte_then _ _ _ _ _ (c.args.at + 1) (omega arith) c.in_ok-zero_or_one.ensures.says
    ∙ byte_bad _ _ _ _ _ c.in_err-locations.ensures.says)

pub returns-in_err-number-clause-says : goal.returns-in_err-number-clause-says
unfolding head_row
returns-in_err-number-clause-says c =
    passed_on _ _ _ _ c.from_residual-in_err-number.ensures.1 (byte_then _ _ _ _ _ (c.args.at + 1) (omega arith) c.in_ok-zero_or_one.ensures.says
    ∙ byte_then _ _ _ _ _ (c.args.at + 2) (omega arith) c.in_ok-locations.ensures.says
    ∙ byte_bad _ _ _ _ _ c.in_err-number.ensures.says)

pub returns-in_err-check_marks-clause-says : goal.returns-in_err-check_marks-clause-says
unfolding head_row
returns-in_err-check_marks-clause-says c =
    passed_on _ _ _ _ c.from_residual-in_err-check_marks.ensures.1 (byte_then _ _ _ _ _ (c.args.at + 1) (omega arith) c.in_ok-zero_or_one.ensures.says
    ∙ byte_then _ _ _ _ _ (c.args.at + 2) (omega arith) c.in_ok-locations.ensures.says
    ∙ byte_then _ _ _ _ _ (c.args.at + 3) (omega arith) c.in_ok-number.ensures.says
    ∙ bytes_bad _ _ _ _ _ _ c.in_err-check_marks.ensures.says)

pub returns-in_err-size-clause-says : goal.returns-in_err-size-clause-says
unfolding head_row
returns-in_err-size-clause-says c =
    passed_on _ _ _ _ c.from_residual-in_err-size.ensures.1 (byte_then _ _ _ _ _ (c.args.at + 1) (omega arith) c.in_ok-zero_or_one.ensures.says
    ∙ byte_then _ _ _ _ _ (c.args.at + 2) (omega arith) c.in_ok-locations.ensures.says
    ∙ byte_then _ _ _ _ _ (c.args.at + 3) (omega arith) c.in_ok-number.ensures.says
    ∙ bytes_read _ _ _ _ _ _ c.in_ok-check_marks.ensures.says (λ xs0. byte_bad _ _ _ _ _ c.in_err-size.ensures.says))

pub returns-in_err-check_alphabet-clause-says : goal.returns-in_err-check_alphabet-clause-says
unfolding head_row
returns-in_err-check_alphabet-clause-says c =
    passed_on _ _ _ _ c.from_residual-in_err-check_alphabet.ensures.1 (byte_then _ _ _ _ _ (c.args.at + 1) (omega arith) c.in_ok-zero_or_one.ensures.says
    ∙ byte_then _ _ _ _ _ (c.args.at + 2) (omega arith) c.in_ok-locations.ensures.says
    ∙ byte_then _ _ _ _ _ (c.args.at + 3) (omega arith) c.in_ok-number.ensures.says
    ∙ bytes_read _ _ _ _ _ _ c.in_ok-check_marks.ensures.says (λ xs0. byte_then _ _ _ _ _ (c.args.at + 3 + c.in_ok-locations.locations + 1) (omega arith) c.in_ok-size.ensures.says
    ∙ bytes_bad _ _ _ _ _ _ c.in_err-check_alphabet.ensures.says))

pub returns-clause-says : goal.returns-clause-says
unfolding head_row
returns-clause-says c =
    says_by _ _ _ _ (byte_then _ _ _ _ _ (c.args.at + 1) (omega arith) c.in_ok-zero_or_one.ensures.says
    ∙ byte_then _ _ _ _ _ (c.args.at + 2) (omega arith) c.in_ok-locations.ensures.says
    ∙ byte_then _ _ _ _ _ (c.args.at + 3) (omega arith) c.in_ok-number.ensures.says)
    (bytes_pass _ _ _ _ _ _ _ c.in_ok-check_marks.ensures.says (λ marks. says_by _ _ _ _ (byte_then _ _ _ _ _ (c.args.at + 3 + c.in_ok-locations.locations + 1) (omega arith) c.in_ok-size.ensures.says)
    (bytes_pass _ _ _ _ _ _ _ c.in_ok-check_alphabet.ensures.says (λ alphabet. answers _ _ _ _ _ (run-done _ _ _) refl))))
