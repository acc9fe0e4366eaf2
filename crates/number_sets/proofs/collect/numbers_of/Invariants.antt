use Rattle.std.proofs.Common.{take}
use Rattle.number_sets.specs.Sets.{Collects, among}
use Rattle.number_sets.proofs.collect.numbers_of.Given as goal

abbrev pub invariant-loop-event : goal.invariant-loop-event
invariant-loop-event l = Collects l.numbers (among (take l.event-index l.alphabet))
