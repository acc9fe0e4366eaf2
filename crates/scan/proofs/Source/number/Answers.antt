use Rattle.std.proofs.Common.{ltb, rules, tests}
use Rattle.scan.specs.Scan.{numbered}
use Rattle.scan.proofs.Source.number.Goals as goal

pub returns-clause-says : goal.returns-clause-says
unfolding numbered
returns-clause-says c = c.tested.ensures.says (λ b. ltb b c.args.n) (λ b r h p. search (rules, tests))
