-- What the checks of the sections find.
use Rattle.std.specs.Prelude.{◌≡◌, ℕ, ◌+◌, ◌<◌, ◌≤◌, List, length, slice_index}
use Rattle.system.specs.declared.automata.Heads.{Heads}
use Rattle.system.specs.declared.transitions.Rows.{Rows}
use Rattle.system.specs.System.{Automaton, Row}
use Rattle.system.specs.Heads.{HeadsAt, HeadFits}

abbrev pub HeadsFound : List ℕ → Heads → List Automaton → ℕ → Type 0
HeadsFound s h As end = (length As ≡ h.count) × (h.end ≡ end) × HeadsAt s h.rows As

-- each row that is counted ends within the file
pub record HeadsKnown (s : List ℕ) (h : Heads) : Type 0 where
  pub few : h.count ≤ 12
  pub fits : (k : ℕ) → k < h.count → HeadFits s (slice_index h.rows k)

abbrev pub RowsFound : ℕ → Rows → List Row → ℕ → Type 0
RowsFound at x rs end = (length rs ≡ x.count) × (x.end ≡ end) × (x.begin ≡ at + 2)
