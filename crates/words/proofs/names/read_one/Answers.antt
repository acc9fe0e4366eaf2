use Rattle.std.proofs.Common.{rules}
use Rattle.model_text.specs.Words.{Stops}
use Rattle.words.specs.Parts.{ones}
use Rattle.words.proofs.Lettered.{one_none, one_runs}
use Rattle.words.proofs.Stopping.{kept}
use Rattle.words.proofs.names.read_one.Goals as goal

pub returns-in_err-letter : goal.returns-in_err-letter
returns-in_err-letter c = rw c.from_residual.ensures (one_none _ c.in_err-letter.ensures)

pub returns : goal.returns
returns c = kept ones c.args.text.now _ (Stops c.in_ok-letter.rest.now) _ _ c.then_some.ensures c.is_stopped.ensures (λ h. search rules) (one_runs _ _ _ _ c.in_ok-letter.ensures)
