-- Lines of the text, by the texts of their parts.
use Rattle.std.specs.Prelude.{ℕ, List, ◌++◌, codes}
use Rattle.model_text.specs.declared.words.Name.{Name}
use Rattle.model_text.specs.Words.{name_text}

-- the definition of a name
abbrev pub defined : Name → List ℕ → List ℕ
defined x e = name_text x ++ (codes " := " ++ (e ++ codes ";\n"))
