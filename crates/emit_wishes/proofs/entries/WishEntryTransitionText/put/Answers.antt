use Rattle.std.proofs.Common.{refl, arith}
use Rattle.std.proofs.lemmas.Grind.{common_steps}
use Rattle.emit_wishes.proofs.entries.WishEntryTransitionText.put.Goals as goal

pub returns-in-Some : goal.returns-in-Some
returns-in-Some g c r h =
    let found = c.in-Some.ensures r.transition.updates h.updates in
    let sent = c.put_wished.ensures found.value found.coded in
    rw found.is (grind (arith, common_steps))

pub returns-in_default : goal.returns-in_default
returns-in_default g c r h = rw (c.in_default.ensures r.transition.updates h.updates) refl
