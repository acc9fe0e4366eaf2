use Rattle.view.proofs.UpdateParts.{update-ends}
use Rattle.view.proofs.step.update_end.Goals as goal

pub returns : goal.returns
returns c u h = update-ends _ _ u h
