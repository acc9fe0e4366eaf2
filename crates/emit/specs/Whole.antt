-- The groups one after another are the text of the model.
use Rattle.std.specs.Prelude.{◌≡◌}
use Rattle.clash.specs.Rules.{ClashRule}
use Rattle.system.specs.System.{System}
use Rattle.model_text.specs.Models.{text}
use Rattle.translation.specs.Translate.{model_of}
use Rattle.emit.specs.Texts.{whole_text}

abbrev pub GroupsAreWhole : Type 0
GroupsAreWhole = (S : System) (R : ClashRule) → text (model_of S R) ≡ whole_text S R
