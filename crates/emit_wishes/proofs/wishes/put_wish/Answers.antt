use Rattle.std.proofs.Common.{arith}
use Rattle.std.proofs.lemmas.Grind.{common_steps}
use Rattle.emit.proofs.CaseTexts.{wish_definition}
use Rattle.emit_wishes.specs.Sought.{wished}
use Rattle.emit_wishes.proofs.wishes.put_wish.Goals as goal

pub returns : goal.returns
returns g c A h =
    let k = c.args.automaton.now.number in
    let sent = c.put_transitions.ensures k A.transitions h.rows in
    rw (wish_definition (wished c.args.part) c.args.i k c.args.x A.transitions) (grind (arith, common_steps))
