-- Parts of the texts of choices.
use Rattle.std.specs.Prelude.{ℕ, List, ◌++◌, codes}
use Rattle.model_text.specs.declared.words.Single.TheVariants.{Choice, Location}
use Rattle.model_text.specs.declared.words.Double.TheVariants.{Transition}
use Rattle.model_text.specs.declared.words.Name.TheVariants as N
use Rattle.model_text.specs.Words.{name_text}
use Rattle.model_text.specs.Trees.{print}
use Rattle.translation.specs.Written.{is_not}

-- one more event that is not the one that happens, and the closing parenthesis of all before it
abbrev pub further : ℕ → List ℕ
further e = codes " & " ++ (print (is_not N.Event e) ++ codes ")")

-- the line of a choice, up to where it leads
abbrev pub leads_to : ℕ → ℕ → List ℕ
leads_to k j =
    codes "TRANS (" ++ (print (is_not (N.One Choice k) j) ++ (codes " | (" ++ (name_text (N.Two Transition k j) ++ (codes " & (next(" ++ (name_text (N.One Location k) ++ codes ") = ")))))
