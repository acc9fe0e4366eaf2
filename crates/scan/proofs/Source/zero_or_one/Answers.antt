use Rattle.std.proofs.Common.{ltb, rules, tests}
use Rattle.scan.specs.Scan.{zero_or_one}
use Rattle.scan.proofs.Source.zero_or_one.Goals as goal

pub returns-clause-says : goal.returns-clause-says
unfolding zero_or_one
returns-clause-says c = c.tested.ensures.says (λ b. ltb b 2) (λ b r h p. search (rules, tests))
