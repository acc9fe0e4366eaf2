use Rattle.std.proofs.Common.{◌+◌, ◌≤◌, [], length}
use Rattle.scan.specs.Scan.{run, collect}
use Rattle.scan.proofs.Loops.{Going}
use Rattle.system.specs.Scan.{mark}
use Rattle.system.proofs.automata.check_marks.Given as goal

abbrev pub invariant-loop-k : goal.invariant-loop-k
invariant-loop-k l =
    Going (λ _. Unit {0}) (λ _. mark l.source.origin) l.source.file.now (run (collect l.locations (λ _. mark l.source.origin) []) l.source.file.now l.at) l.locations l.k (l.at + l.k)
    × (l.at + l.k ≤ length l.source.file.now)
