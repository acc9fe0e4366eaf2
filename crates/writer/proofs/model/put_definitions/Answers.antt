use Rattle.std.proofs.Common.{arith}
use Rattle.std.proofs.lemmas.Grind.{common_steps}
use Rattle.view.proofs.Systems.{viewed}
use Rattle.writer.proofs.model.put_definitions.Goals as goal

pub returns : goal.returns
returns g c =
    let variables = (viewed c.args.view.now).variables in
    let events = (viewed c.args.view.now).events in
    let marked = c.put_marked.ensures g.R.Rule.rule in
    grind (arith, common_steps)
