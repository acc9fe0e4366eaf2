use Rattle.view.proofs.FileParts.{rows_stand}
use Rattle.view.proofs.Systems.{viewed}
use Rattle.view.proofs.view.View.rows.Goals as goal

pub invariant_of-result : goal.invariant_of-result
invariant_of-result c = record { stand = ∣ (_, rows_stand _ _ _ (viewed c.args.self.now)) ∣₁ }

pub returns : goal.returns
returns c = rows_stand _ _ _ (viewed c.args.self.now)
