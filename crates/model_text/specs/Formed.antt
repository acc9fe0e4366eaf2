-- Which models are well formed: the limits of a text, and its rules on shapes and on names.
use Rattle.std.specs.Prelude.{◌≡◌, ◌≤◌, List, [], map, length}
use Rattle.scan.specs.Stands.{Each}
use Rattle.model_text.specs.declared.words.Kind.{Kind}
use Rattle.model_text.specs.declared.words.Kind.TheVariants.{Guard}
use Rattle.model_text.specs.declared.words.Name.{Name}
use Rattle.model_text.specs.Words.{GoodName}
use Rattle.model_text.specs.Trees.{expr, Tree, Good, opens}
use Rattle.model_text.specs.Ranges.{Ranges, RangesFormed}
use Rattle.model_text.specs.Lines.{Definition}
use Rattle.model_text.specs.Models.{Model, text}
use Rattle.model_text.specs.Kinds.{kind_of, Fits}
use Rattle.model_text.specs.Scopes.{Place, of-state, of-step, Definable, place_of, Allows, Among, Known, Nexts, Named}

-- an expression of the kind that may stand at the place, whatever its names are
pub record Shaped (p : Place) (k : Kind) (e : Tree expr) : Type 0 where
  pub fits : Fits k e
  pub good : Good e
  pub few_open : opens e ≤ 24
  pub nexts : Nexts p e

-- its names are known so far and may stand at the place
pub record NamesRight (r : Ranges) (before : List Name) (p : Place) (k : Kind) (e : Tree expr) : Type 0 where
  pub named : Named (λ x. Known r before x × Allows p x) k e

pub record Right (r : Ranges) (before : List Name) (p : Place) (k : Kind) (e : Tree expr) : Type 0 where
  pub shaped : Shaped p k e
  pub names : NamesRight r before p k e

abbrev pub names_of : List Definition → List Name
names_of ds = map (λ d. d.name) ds

-- a definition of a new name, after others
pub record DefinitionFormed (r : Ranges) (before : List Definition) (d : Definition) : Type 0 where
  pub definable : Definable d.name
  pub numbers : GoodName d.name
  pub fresh : Among (names_of before) d.name → ⊥
  pub body : Right r (names_of before) (place_of d.name) (kind_of d.name) d.body

-- guards at a place where all definitions are known
abbrev pub GuardsFormed : Model → Place → List (Tree expr) → Type 0
GuardsFormed M p gs = Each (λ _ g. Right M.ranges (names_of M.definitions) p Guard g) [] gs

pub record ModelFormed (M : Model) : Type 0 where
  pub rule_low : 1 ≤ M.rule
  pub rule_high : M.rule ≤ 999
  pub ranges : RangesFormed M.ranges
  pub few_definitions : length M.definitions ≤ 2048
  pub definitions : Each (DefinitionFormed M.ranges) [] M.definitions
  pub starts : GuardsFormed M of-state M.starts
  pub steps : GuardsFormed M of-step M.steps
  pub always : GuardsFormed M of-state M.always
  pub reachable : Right M.ranges (names_of M.definitions) of-state Guard M.reachable

-- a text is that of one well-formed model at most
pub record OneModel (M : Model) : Type 0 where
  pub only : (L : Model) → ModelFormed L → text L ≡ text M → L ≡ M

abbrev pub PrintingOneToOne : Type 0
PrintingOneToOne = (M : Model) → ModelFormed M → OneModel M
