-- What `model` prints for a file: its text under rule 1 where that has at most 65,536 bytes, else the line of a refusal.
use Rattle.std.specs.Prelude.{ℕ, true, cond, List, ◌++◌, length, codes, nat_le}
use Rattle.scan.specs.declared.refusal.Fault.{Fault}
use Rattle.scan.specs.declared.refusal.Fault.TheVariants.{Buffer}
use Rattle.scan.specs.Scan.{Out, good, bad}
use Rattle.expr.specs.Expr.{truth}
use Rattle.clash.specs.Rules.{ClashRule}
use Rattle.clash.specs.EqualValues.{equal_values}
use Rattle.system.specs.System.{System}
use Rattle.system.specs.Scan.{answer}
use Rattle.report.specs.Lines.{refused_line}
use Rattle.model_text.specs.Models.{text}
use Rattle.translation.specs.Translate.{model_of}

-- equal values join, and a clash is permitted: the variable keeps its value
abbrev pub rule_one : ClashRule
rule_one = equal_values 1 (λ _ _. true) (truth true)

abbrev pub refusal_page : Fault → List ℕ
refusal_page f = refused_line f ++ codes "\n"

abbrev pub text_page : List ℕ → List ℕ
text_page t = cond (nat_le (length t) 65536) t (refusal_page (Buffer (length t)))

abbrev pub page_by : Out System → List ℕ
page_by (good S end) = text_page (text (model_of S rule_one))
page_by (bad f) = refusal_page f

abbrev pub page : List ℕ → List ℕ
page file = page_by (answer file)
