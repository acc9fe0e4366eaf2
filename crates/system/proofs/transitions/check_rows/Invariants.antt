use Rattle.std.proofs.Common.{◌≡◌, ◌≤◌, List, length}
use Rattle.system.specs.System.{Automaton}
use Rattle.system.specs.Heads.{HeadsAt}
use Rattle.system.proofs.Rows.{RowsGoing}
use Rattle.system.proofs.transitions.check_rows.Given as goal

abbrev pub invariant-loop-k : goal.invariant-loop-k
invariant-loop-k l =
    ((As : List Automaton) → length As ≡ l.heads.count → HeadsAt l.file l.heads.rows As → RowsGoing l.events l.variables As l.file l.heads.end l.floor l.count l.k l.end)
    × (l.end ≤ length l.file) × (l.count ≤ 512)
