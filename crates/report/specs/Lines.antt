-- The line of a refusal: its number, and the numbers that it carries.
use Rattle.std.specs.Prelude.{ℕ, List, [], ◌∷◌, ◌++◌, codes, decimal}
use Rattle.scan.specs.Faults.{number, carried}
use Rattle.scan.specs.declared.refusal.Fault.{Fault}

-- each number after a space
abbrev pub spaced : List ℕ → List ℕ
spaced [] = []
spaced (n ∷ ns) = codes " " ++ (decimal n ++ spaced ns)

abbrev pub refused_line : Fault → List ℕ
refused_line fault = codes "refused" ++ spaced (number fault ∷ carried fault)
