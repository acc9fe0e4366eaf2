-- The system of an accepted file.
use Rattle.std.specs.Prelude.{ℕ, List, []}
use Rattle.scan.specs.Scan.{Out, good, bad}
use Rattle.scan.specs.Stands.{Bytes}
use Rattle.system.specs.System.{System}
use Rattle.system.specs.Scan.{answer}
use Rattle.system.specs.Shows.{Shows}
use Rattle.system.specs.declared.layout.Layout.{Layout}

-- the system that was read; a refused file has an empty one
abbrev pub system_in : Out System → System
system_in (good S end) = S
system_in (bad f) = record { kinds = []; variables = []; automata = [] }

unfoldable pub read_system : List ℕ → System
read_system file = system_in (answer file)

-- the layout shows where the parts of the file's system stand
pub record LaidOut (file : List ℕ) (l : Layout) : Type 0 where
  pub shows : Shows file l (read_system file)
  pub bytes : Bytes file
