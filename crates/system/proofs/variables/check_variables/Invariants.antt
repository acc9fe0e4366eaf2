use Rattle.std.proofs.Common.{◌+◌, ◌*◌, ◌≤◌, length}
use Rattle.system.proofs.Sections.{VariablesGoing}
use Rattle.system.proofs.variables.check_variables.Given as goal

abbrev pub invariant-loop-k : goal.invariant-loop-k
invariant-loop-k l =
    VariablesGoing l.file l.at l.variables l.k × (l.at + 1 + 10 * l.k ≤ length l.file) × (l.variables ≤ 12)
