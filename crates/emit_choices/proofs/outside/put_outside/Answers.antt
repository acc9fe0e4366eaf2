use Rattle.std.proofs.Common.{arith}
use Rattle.std.proofs.lemmas.Grind.{common_steps}
use Rattle.emit_choices.proofs.Tests.{outside-text}
use Rattle.emit_choices.proofs.outside.put_outside.Goals as goal

pub returns : goal.returns
returns g c = rw (c.in-Some.ensures.cases.0, outside-text c.in-Some.first.now c.in-Some.others.now) (grind (arith, common_steps))
