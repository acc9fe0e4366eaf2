-- Updates and rows that stand in a file from a place on.
use Rattle.std.specs.Prelude.{◌≡◌, ℕ, ◌+◌, ◌<◌, ◌≤◌, true, List, [], length, pos, slice_index}
use Rattle.std.specs.List.{flat_map}
use Rattle.scan.specs.Stands.{Stands}
use Rattle.expr.specs.Expr.{Formed, literal, truth}
use Rattle.system.specs.System.{Update, Row}
use Rattle.system.specs.Formed.{All}
use Rattle.system.specs.Encode.{update_bytes, row_bytes}

-- the bytes of a thing that P holds of
pub record OneAt {A : Type 0} (enc : A → List ℕ) (P : A → Type 0) (s : List ℕ) (at : ℕ) (x : A) : Type 0 where
  pub stands : Stands s at (enc x)
  pub fine : P x

-- the bytes of so many things, one after another
pub record ManyAt {A : Type 0} (enc : A → List ℕ) (P : A → Type 0) (s : List ℕ) (at left : ℕ) (xs : List A) : Type 0 where
  pub stands : Stands s at (flat_map enc xs)
  pub count : length xs ≡ left
  pub fine : All P xs

-- an update whose term is well formed, whatever the variables are
pub record UpdateFine (u : Update) : Type 0 where
  pub value : Formed 256 u.value

abbrev pub UpdateAt : List ℕ → ℕ → Update → Type 0
UpdateAt = OneAt update_bytes UpdateFine

abbrev pub UpdatesAt : List ℕ → ℕ → ℕ → List Update → Type 0
UpdatesAt = ManyAt update_bytes UpdateFine

-- some update stands at the place, and ends within the file
pub record UpdateStanding (s : List ℕ) (at : ℕ) : Type 0 where
  pub some : ∥ ((u : Update) × UpdateAt s at u) ∥₁
  pub size : at + 1 < length s
  pub end : at + 2 + slice_index s (at + 1) ≤ length s

-- what `first` answers where no update is left
abbrev pub to_zero : Update
to_zero = record { variable = 0; value = literal (pos 0) }

-- a row whose expressions are well formed, whatever the variables are
pub record RowFine (r : Row) : Type 0 where
  pub guard : Formed 256 r.transition.guard
  pub few_updates : length r.transition.updates ≤ 12
  pub updates : All UpdateFine r.transition.updates

abbrev pub RowAt : List ℕ → ℕ → Row → Type 0
RowAt = OneAt row_bytes RowFine

abbrev pub RowsAt : List ℕ → ℕ → ℕ → List Row → Type 0
RowsAt = ManyAt row_bytes RowFine

-- some row stands at the place, and its guard ends within the file
pub record RowStanding (s : List ℕ) (at : ℕ) : Type 0 where
  pub some : ∥ ((r : Row) × RowAt s at r) ∥₁
  pub size : at + 4 < length s
  pub guard : at + 5 + slice_index s (at + 4) < length s

-- what `first` answers where no row is left
abbrev pub idle_row : Row
idle_row = record { owner = 0; transition = record { from = 0; event = 0; to = 0; guard = truth true; updates = [] } }
