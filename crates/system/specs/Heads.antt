-- Automata's rows in a file, by where they begin.
use Rattle.std.specs.Prelude.{◌≡◌, ℕ, ◌+◌, ◌<◌, ◌≤◌, List, length, slice_index, slice_index_or}
use Rattle.scan.specs.Stands.{Stands}
use Rattle.system.specs.System.{Automaton, idle}
use Rattle.system.specs.Encode.{head_bytes}

-- each automaton's row begins where the list says
pub record HeadsAt (s rows : List ℕ) (As : List Automaton) : Type 0 where
  pub begin : (k : ℕ) → k < length As → Stands s (slice_index rows k) (head_bytes (slice_index_or As k idle))

-- n things that take a byte each
abbrev pub BytesEach : {A : Type 0} → ℕ → ℕ → List A → ℕ → Type 0
BytesEach at n xs end = (length xs ≡ n) × (end ≡ at + n)

-- an automaton's row that begins at a place ends within the file
pub record HeadFits (s : List ℕ) (at : ℕ) : Type 0 where
  pub size : at + 3 + slice_index s (at + 1) < length s
  pub end : at + 3 + slice_index s (at + 1) + 1 + slice_index s (at + 3 + slice_index s (at + 1)) ≤ length s
