-- What one byte makes of a text.
use Rattle.std.specs.Prelude.{ℕ, cond, [], ◌∷◌, ◌++◌, length, nat_lt}
use Rattle.describe.specs.declared.text.Text.{Text}

-- a text without room stays as it is
abbrev pub grown : Text → ℕ → Text
grown t b = cond (nat_lt (length t.0.items) 8192) (record { 0 = record { items = t.0.items ++ b ∷ [] } }) t
