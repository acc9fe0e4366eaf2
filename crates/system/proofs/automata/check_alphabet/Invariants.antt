use Rattle.std.proofs.Common.{◌≡◌, ◌+◌, ◌≤◌, [], length}
use Rattle.scan.specs.Scan.{run, collect}
use Rattle.scan.proofs.Loops.{Going}
use Rattle.system.specs.Scan.{rising, bound}
use Rattle.system.proofs.automata.check_alphabet.Given as goal

abbrev pub invariant-loop-k : goal.invariant-loop-k
invariant-loop-k l =
    Going (λ before. bound before ≡ l.floor) (λ before. rising l.source.origin l.events (bound before)) l.source.file.now (run (collect l.size (λ before. rising l.source.origin l.events (bound before)) []) l.source.file.now l.at) l.size l.k (l.at + l.k)
    × (l.at + l.k ≤ length l.source.file.now)
