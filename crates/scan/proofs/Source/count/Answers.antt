use Rattle.std.proofs.Common.{◌&&◌, nat_le, rules, tests}
use Rattle.scan.specs.Scan.{counted}
use Rattle.scan.proofs.Source.count.Goals as goal

pub returns-clause-says : goal.returns-clause-says
unfolding counted
returns-clause-says c = c.tested.ensures.says (λ b. nat_le c.args.low b && nat_le b c.args.high) (λ b r h p. search (rules, tests))
