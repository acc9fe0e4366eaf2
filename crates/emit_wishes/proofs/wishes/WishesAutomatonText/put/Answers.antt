use Rattle.std.proofs.Common.{arith}
use Rattle.std.proofs.lemmas.Grind.{common_steps}
use Rattle.emit_wishes.proofs.wishes.WishesAutomatonText.put.Goals as goal

pub returns : goal.returns
returns g c A h =
    let status = c.put_wish.ensures A h in
    let value = c.put_wish-2.ensures A h in
    grind (arith, common_steps)
