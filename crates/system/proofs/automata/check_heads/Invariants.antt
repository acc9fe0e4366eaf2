use Rattle.std.proofs.Common.{◌≡◌, ◌≤◌, length}
use Rattle.system.proofs.Starts.{HeadsGoing}
use Rattle.system.proofs.automata.check_heads.Given as goal

abbrev pub invariant-loop-k : goal.invariant-loop-k
invariant-loop-k l =
    HeadsGoing l.file l.events l.at l.rows l.count l.k l.end
    × (l.end ≤ length l.file) × (l.count ≤ 12) × (length l.rows ≡ 12)
