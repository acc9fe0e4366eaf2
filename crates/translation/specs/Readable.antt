-- What holds of the model of every well-formed system under every lawful rule.
use Rattle.std.specs.Prelude.{◌^◌, ◌≤◌, length}
use Rattle.clash.specs.Rules.{ClashRule, Lawful}
use Rattle.system.specs.System.{System}
use Rattle.system.specs.Formed.{WellFormed}
use Rattle.model_text.specs.Models.{text}
use Rattle.model_text.specs.Formed.{ModelFormed}
use Rattle.translation.specs.Translate.{model_of}

-- it keeps every limit and every rule of the text
abbrev pub ModelsAreFormed : Type 0
ModelsAreFormed = (S : System) (R : ClashRule) → WellFormed S → Lawful R → ModelFormed (model_of S R)

-- its text has a length that a machine's word can hold
abbrev pub TextsAreBounded : Type 0
TextsAreBounded = (S : System) (R : ClashRule) → WellFormed S → Lawful R → length (text (model_of S R)) ≤ 2 ^ 48
