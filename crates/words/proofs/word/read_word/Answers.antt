use Rattle.std.proofs.Common.{rules}
use Rattle.model_text.specs.Words.{Stops}
use Rattle.words.specs.Forms.{words}
use Rattle.words.proofs.Choosing.{word_runs}
use Rattle.words.proofs.Stopping.{kept}
use Rattle.words.proofs.word.read_word.Goals as goal

pub returns : goal.returns
returns c =
    let runs = word_runs _ c.in_default.ensures c.in_default-expect_whole.ensures c.in_default-expect_whole-2.ensures _ _ c.in_ok-n.ensures in
    kept words c.args.text.now _ (Stops c.in_ok-n.rest.now) _ _ c.then_some.ensures c.is_stopped.ensures (λ h. search rules) runs
