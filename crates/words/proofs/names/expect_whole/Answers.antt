use Rattle.std.proofs.Common.{rules}
use Rattle.words.proofs.Stopping.{only_whole}
use Rattle.words.proofs.names.expect_whole.Goals as goal

pub returns : goal.returns
returns c = only_whole c.args.word.now c.args.text.now c.expect.result _ c.filter.result c.expect.ensures c.filter.ensures (λ x b k. search rules)
