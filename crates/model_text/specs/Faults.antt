-- Which texts are read, and which line of any other is the first faulty one.
use Rattle.std.specs.Prelude.{◌≡◌, ℕ, suc, cond, List, [], ◌∷◌, ◌++◌, length, ◌==◌, ◌≢◌}
use Rattle.std.specs.List.{flat_map}
use Rattle.model_text.specs.declared.words.Phase.TheVariants as P
use Rattle.model_text.specs.declared.words.TextRule.{TextRule}
use Rattle.model_text.specs.declared.words.TextRule.TheVariants.{WrongLine, WrongName}
use Rattle.model_text.specs.declared.words.TextFault.{TextFault}
use Rattle.model_text.specs.Lines.{Line, line_text}
use Rattle.model_text.specs.Models.{Model, lines, text}
use Rattle.model_text.specs.Formed.{ModelFormed}
use Rattle.model_text.specs.Reading.{Progress, at_start, LineShaped, LineNamed, RightLines, progress}

-- the number of each rule
abbrev pub text_number : TextRule → ℕ
text_number WrongLine = 11
text_number WrongName = 12

-- right lines to the end
pub record ReadLines (s : List ℕ) (ls : List Line) : Type 0 where
  pub right : RightLines at_start ls
  pub ended : (progress at_start ls).phase ≡ P.End
  pub bytes : flat_map line_text ls ≡ s

-- what stands after right lines is no line that may come next, or is one of which only the names are wrong
abbrev pub FaultyBy : TextRule → Progress → List ℕ → Type 0
FaultyBy WrongLine p rest = (l : Line) (more : List ℕ) → LineShaped p l → rest ≢ line_text l ++ more
FaultyBy WrongName p rest = (l : Line) × (more : List ℕ) × LineShaped p l × (rest ≡ line_text l ++ more) × (LineNamed p l → ⊥)

-- the line after some right ones is faulty; lines count from 1
pub record FaultyLine (s : List ℕ) (f : TextFault) : Type 0 where
  pub before : List Line
  pub rest : List ℕ
  pub right : RightLines at_start before
  pub bytes : s ≡ flat_map line_text before ++ rest
  pub line : f.line ≡ suc (length before)
  pub unended : (progress at_start before).phase ≡ P.End → rest ≢ []
  pub faulty : FaultyBy f.rule (progress at_start before) rest

-- right lines to the end are the lines of a well-formed model, and those of every such model are right
pub record LinesOfModels : Type 0 where
  pub model : (ls : List Line) → RightLines at_start ls → (progress at_start ls).phase ≡ P.End → (M : Model) × ModelFormed M × (lines M ≡ ls)
  pub right : (M : Model) → ModelFormed M → RightLines at_start (lines M) × ((progress at_start (lines M)).phase ≡ P.End)

-- a faulty text is that of no well-formed model, and has no other first faulty line
pub record FaultDecides (s : List ℕ) (f : TextFault) : Type 0 where
  pub no_model : (M : Model) → ModelFormed M → text M ≢ s
  pub one_fault : (g : TextFault) → FaultyLine s g → g ≡ f

-- how many line feeds a text has
abbrev pub feeds : List ℕ → ℕ
feeds [] = 0
feeds (b ∷ bs) = cond (b == 10) (suc (feeds bs)) (feeds bs)

-- a text that ends with its n-th line feed
pub record UpToLine (n : ℕ) (front : List ℕ) : Type 0 where
  pub head : List ℕ
  pub ends : front ≡ head ++ (10 ∷ [])
  pub count : feeds front ≡ n

-- a fault on a line that its line feed ends depends only on the text up to there
abbrev pub FaultByFront : Type 0
FaultByFront = (front more other : List ℕ) (f : TextFault) → UpToLine f.line front → FaultyLine (front ++ more) f → FaultyLine (front ++ other) f
