-- A model: what a text says, and the text.
use Rattle.std.specs.Prelude.{ℕ, List, [], ◌∷◌, ◌++◌, map, length, pos, slice_index, slice_index_or}
use Rattle.std.specs.List.{flat_map}
use Rattle.model_text.specs.declared.words.Heading.TheVariants.{Module, Inputs, State, Definitions}
use Rattle.model_text.specs.declared.words.Constraint.TheVariants.{Start, Step, Always, Reachable}
use Rattle.model_text.specs.declared.words.Name.TheVariants as N
use Rattle.model_text.specs.declared.words.Single.{Single}
use Rattle.model_text.specs.declared.words.Single.TheVariants.{Choice, Location, Variable}
use Rattle.model_text.specs.Lists.{up_to}
use Rattle.model_text.specs.Trees.{expr, Tree}
use Rattle.model_text.specs.Ranges.{Span, Ranges}
use Rattle.model_text.specs.Lines.{Definition, Line, rule, heading, range, define, constrain, line_text}

pub record Model : Type 0 where
  pub rule : ℕ
  pub ranges : Ranges
  pub definitions : List Definition
  pub starts : List (Tree expr)
  pub steps : List (Tree expr)
  pub always : List (Tree expr)
  pub reachable : Tree expr

-- the first numbers of a kind, each from 0 to its last
abbrev pub count_ranges : Single → List ℕ → List Line
count_ranges x ns = up_to (length ns) (λ k. range (N.One x k) (pos 0) (pos (slice_index ns k)) ∷ [])

abbrev pub no_span : Span
no_span = record { low = pos 0; high = pos 0 }

abbrev pub span_range : List Span → ℕ → Line
span_range vs i = range (N.One Variable i) (slice_index_or vs i no_span).low (slice_index_or vs i no_span).high

abbrev pub value_ranges : List Span → List Line
value_ranges vs = up_to (length vs) (λ i. span_range vs i ∷ [])

abbrev pub declarations : ℕ → Ranges → List Line
declarations n r =
    rule n ∷ (heading Module ∷ (heading Inputs ∷ (range N.Event (pos 0) (pos r.events) ∷ (count_ranges Choice r.choices
    ++ (heading State ∷ (count_ranges Location r.locations ++ (value_ranges r.values ++ (heading Definitions ∷ []))))))))

abbrev pub lines : Model → List Line
lines M =
    declarations M.rule M.ranges
    ++ (map define M.definitions
    ++ (map (constrain Start) M.starts
    ++ (map (constrain Step) M.steps
    ++ (map (constrain Always) M.always ++ (constrain Reachable M.reachable ∷ [])))))

abbrev pub text : Model → List ℕ
text M = flat_map line_text (lines M)
