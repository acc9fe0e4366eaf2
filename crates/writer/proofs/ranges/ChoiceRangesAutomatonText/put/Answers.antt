use Rattle.std.proofs.Common.{arith}
use Rattle.std.proofs.lemmas.Grind.{common_steps}
use Rattle.writer.proofs.ranges.ChoiceRangesAutomatonText.put.Goals as goal

pub returns : goal.returns
returns g c A h = let long = h.rows.count in grind (arith, common_steps)
