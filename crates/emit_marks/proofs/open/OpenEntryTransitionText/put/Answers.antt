use Rattle.std.proofs.Common.{arith}
use Rattle.std.proofs.lemmas.Grind.{common_steps}
use Rattle.translation.specs.Written.{variable_name}
use Rattle.emit.proofs.Expressions.{text_written}
use Rattle.emit.proofs.Sent.{one_digit}
use Rattle.emit_marks.proofs.open.OpenEntryTransitionText.put.Goals as goal

pub returns-then-t-self : goal.returns-then-t-self
returns-then-t-self g c r h =
    let written = text_written variable_name r.transition.guard in
    let guard = c.put.ensures r.transition.guard h.guard in
    grind (arith, common_steps, one_digit)
