-- An entry of the marked locations.
use Rattle.std.specs.Prelude.{ℕ, Bool, cond, List, []}
use Rattle.model_text.specs.declared.words.Single.TheVariants.{Location}
use Rattle.model_text.specs.declared.words.Name.TheVariants as N
use Rattle.translation.specs.Written.{is_at}
use Rattle.emit.specs.Texts.{entry_text}

abbrev pub location_entry : ℕ → ℕ → Bool → List ℕ
location_entry k j m = cond m (entry_text 1 (is_at (N.One Location k) j)) []
