use Rattle.std.proofs.Common.{arith}
use Rattle.std.proofs.lemmas.Grind.{common_steps}
use Rattle.view.proofs.Systems.{viewed}
use Rattle.emit_marks.proofs.marks.put_marked.Goals as goal

pub returns : goal.returns
returns g c rule = let variables = (viewed c.args.view.now).variables in grind (arith, common_steps)
