-- A layout that shows where the parts of a system stand in its file.
use Rattle.std.specs.Prelude.{◌≡◌, ℕ, List, length}
use Rattle.std.specs.List.{flat_map}
use Rattle.scan.specs.Stands.{Stands}
use Rattle.system.specs.declared.layout.Layout.{Layout}
use Rattle.system.specs.System.{System, rows}
use Rattle.system.specs.Formed.{WellFormed}
use Rattle.system.specs.Encode.{row_bytes, encode}
use Rattle.system.specs.Heads.{HeadsAt}

pub record Shows (s : List ℕ) (l : Layout) (S : System) : Type 0 where
  pub formed : WellFormed S
  pub bytes : encode S ≡ s
  pub events : l.events ≡ length S.kinds
  pub variables : l.variables ≡ length S.variables
  pub automata : l.automata ≡ length S.automata
  pub transitions : l.transitions ≡ length (rows S)
  pub heads : HeadsAt s l.heads S.automata
  pub rows : Stands s l.rows_at (flat_map row_bytes (rows S))
