use Rattle.std.proofs.Common.{◌≡◌, pred, length, ap, ◌∙◌, sub-one, arith}
use Rattle.std.proofs.lemmas.Grind.{common_steps}
use Rattle.view.specs.Shown.{system_of}
use Rattle.view.proofs.Systems.{viewed}
use Rattle.emit_wishes.proofs.variables.VariableDefinitionsNumberText.put.Goals as goal

pub returns : goal.returns
returns g c =
    let v = c.args.view.now in
    let last : c.saturating_sub.result ≡ pred (length (system_of v).automata) = c.saturating_sub.ensures ∙ sub-one _ ∙ ap pred (viewed v).automata in
    grind (arith, common_steps)
