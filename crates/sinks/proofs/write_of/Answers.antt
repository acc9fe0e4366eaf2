use Rattle.sinks.proofs.Ends.{written}
use Rattle.sinks.proofs.write_of.Goals as goal

pub returns : goal.returns
returns g c = written _ _ _ _ c.measure_of-needed.ensures c.if-needed-out.false c.fill_of.ensures
