use Rattle.std.proofs.Common.{rules, tests, ◌≡◌, ◌≢◌}
use Rattle.std.proofs.lemmas.Iterator.{first_from_find, YieldsList-from_slice}
use Rattle.std.proofs.lemmas.Iterator.Consumers.{YieldsList-from_copied}
use Rattle.model_text.specs.Words.{double}
use Rattle.model_text.specs.declared.words.TheConstants.Double.{ALL}
use Rattle.model_text.proofs.Letters.{by_letter, all_doubles}
use Rattle.model_text.proofs.words.Double.from_letter.Goals as goal

pub returns : goal.returns
returns c =
    let first = first_from_find _ _ c.find.result (λ x. double x ≡ c.args.letter) (λ x. double x ≢ c.args.letter) c.find.ensures.ran (YieldsList-from_copied (YieldsList-from_slice ALL cc)) (λ x q k. search (rules, tests)) (λ x q k. search (rules, tests)) in
    by_letter double c.args.letter ALL all_doubles c.find.result first
