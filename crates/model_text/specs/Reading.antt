-- Reading lines one after another: what was read so far, which line may come next, and what its names must be.
use Rattle.std.specs.Prelude.{◌≡◌, ℕ, ◌<◌, ◌≤◌, List, [], ◌∷◌, ◌++◌, length, ℤ, pos, unsigned_abs}
use Rattle.model_text.specs.declared.words.Kind.TheVariants.{Guard}
use Rattle.model_text.specs.declared.words.Heading.{Heading}
use Rattle.model_text.specs.declared.words.Heading.TheVariants as H
use Rattle.model_text.specs.declared.words.Constraint.{Constraint}
use Rattle.model_text.specs.declared.words.Constraint.TheVariants as C
use Rattle.model_text.specs.declared.words.Phase.{Phase}
use Rattle.model_text.specs.declared.words.Phase.TheVariants as P
use Rattle.model_text.specs.declared.words.Name.{Name}
use Rattle.model_text.specs.declared.words.Name.TheVariants as N
use Rattle.model_text.specs.declared.words.Single.{Single}
use Rattle.model_text.specs.declared.words.Single.TheVariants as S
use Rattle.model_text.specs.Words.{GoodName}
use Rattle.model_text.specs.Ranges.{SpanFormed, Ranges}
use Rattle.model_text.specs.Lines.{Line, rule, heading, range, define, constrain}
use Rattle.model_text.specs.Kinds.{kind_of}
use Rattle.model_text.specs.Scopes.{Place, of-state, of-step, Definable, place_of, Among}
use Rattle.model_text.specs.Formed.{Shaped, NamesRight}

-- which line is due, the ranges so far, and the names defined so far
pub record Progress : Type 0 where
  pub phase : Phase
  pub ranges : Ranges
  pub names : List Name

abbrev pub at_start : Progress
at_start = record { phase = P.Rule; ranges = record { events = 0; choices = []; locations = []; values = [] }; names = [] }

-- a range from 0 to a number up to a limit
pub record CountTo (limit : ℕ) (low high : ℤ) : Type 0 where
  pub last : ℕ
  pub from_zero : low ≡ pos 0
  pub is : high ≡ pos last
  pub within : last ≤ limit

-- the phases of the definitions and constraints, in their order
abbrev pub rank : Phase → ℕ
rank P.Rule = 0
rank P.Module = 0
rank P.Inputs = 0
rank P.Event = 0
rank P.Choices = 0
rank P.State = 0
rank P.Definitions = 1
rank P.Starts = 2
rank P.Steps = 3
rank P.Always = 4
rank P.End = 5

abbrev pub constraint_rank : Constraint → ℕ
constraint_rank C.Start = 2
constraint_rank C.Step = 3
constraint_rank C.Always = 4
constraint_rank C.Reachable = 4

abbrev pub constraint_place : Constraint → Place
constraint_place C.Start = of-state
constraint_place C.Step = of-step
constraint_place C.Always = of-state
constraint_place C.Reachable = of-state

-- every automaton has its location's range
abbrev pub Located : Progress → Type 0
Located p = length p.ranges.locations ≡ length p.ranges.choices

-- the ranges of numbered things count from 0
abbrev pub RangeShaped : Progress → Single → ℕ → ℤ → ℤ → Type 0
RangeShaped p S.Choice k low high = (p.phase ≡ P.Choices) × (k ≡ length p.ranges.choices) × (k < 12) × CountTo 512 low high
RangeShaped p S.Location k low high = (p.phase ≡ P.State) × (k ≡ length p.ranges.locations) × (k < length p.ranges.choices) × CountTo 63 low high
RangeShaped p S.Variable i low high = (p.phase ≡ P.State) × Located p × (i ≡ length p.ranges.values) × (i < 12) × SpanFormed (record { low = low; high = high })
RangeShaped p S.SettledValue n low high = ⊥
RangeShaped p S.Permission n low high = ⊥
RangeShaped p S.PlantsOpen n low high = ⊥
RangeShaped p S.LocationMarked n low high = ⊥

abbrev pub NameRanged : Progress → Name → ℤ → ℤ → Type 0
NameRanged p N.Event low high = (p.phase ≡ P.Event) × CountTo 63 low high
NameRanged p N.Marked low high = ⊥
NameRanged p (N.One x n) low high = RangeShaped p x n low high
NameRanged p (N.Two x n m) low high = ⊥

abbrev pub HeadingDue : Progress → Heading → Type 0
HeadingDue p H.Module = p.phase ≡ P.Module
HeadingDue p H.Inputs = p.phase ≡ P.Inputs
HeadingDue p H.State = (p.phase ≡ P.Choices) × (1 ≤ length p.ranges.choices)
HeadingDue p H.Definitions = (p.phase ≡ P.State) × Located p

-- the line may come next, whatever its names are
abbrev pub LineShaped : Progress → Line → Type 0
LineShaped p (rule n) = (p.phase ≡ P.Rule) × (1 ≤ n) × (n ≤ 999)
LineShaped p (heading h) = HeadingDue p h
LineShaped p (range x low high) = NameRanged p x low high
LineShaped p (define d) = (p.phase ≡ P.Definitions) × (length p.names < 2048) × Definable d.name × GoodName d.name × Shaped (place_of d.name) (kind_of d.name) d.body
LineShaped p (constrain c g) = (1 ≤ rank p.phase) × (rank p.phase ≤ constraint_rank c) × Shaped (constraint_place c) Guard g

-- its names are new where it defines one, and known and allowed where it uses them
abbrev pub LineNamed : Progress → Line → Type 0
LineNamed p (rule n) = Unit {0}
LineNamed p (heading h) = Unit {0}
LineNamed p (range x low high) = Unit {0}
LineNamed p (define d) = (Among p.names d.name → ⊥) × NamesRight p.ranges p.names (place_of d.name) (kind_of d.name) d.body
LineNamed p (constrain c g) = NamesRight p.ranges p.names (constraint_place c) Guard g

-- what is due after a line
abbrev pub after_heading : Heading → Phase
after_heading H.Module = P.Inputs
after_heading H.Inputs = P.Event
after_heading H.State = P.State
after_heading H.Definitions = P.Definitions

abbrev pub after_constraint : Constraint → Phase
after_constraint C.Start = P.Starts
after_constraint C.Step = P.Steps
after_constraint C.Always = P.Always
after_constraint C.Reachable = P.End

abbrev pub due : Phase → Progress → Progress
due phase p = record { phase = phase; ranges = p.ranges; names = p.names }

abbrev pub ranged : Ranges → Progress → Progress
ranged r p = record { phase = p.phase; ranges = r; names = p.names }

abbrev pub with_range : Ranges → Single → ℤ → ℤ → Ranges
with_range r S.Choice low high = record { events = r.events; choices = r.choices ++ unsigned_abs high ∷ []; locations = r.locations; values = r.values }
with_range r S.Location low high = record { events = r.events; choices = r.choices; locations = r.locations ++ unsigned_abs high ∷ []; values = r.values }
with_range r S.Variable low high = record { events = r.events; choices = r.choices; locations = r.locations; values = r.values ++ record { low = low; high = high } ∷ [] }
with_range r S.SettledValue low high = r
with_range r S.Permission low high = r
with_range r S.PlantsOpen low high = r
with_range r S.LocationMarked low high = r

abbrev pub after_range : Progress → Name → ℤ → ℤ → Progress
after_range p N.Event low high = record { phase = P.Choices; ranges = record { events = unsigned_abs high; choices = p.ranges.choices; locations = p.ranges.locations; values = p.ranges.values }; names = p.names }
after_range p N.Marked low high = p
after_range p (N.One x n) low high = ranged (with_range p.ranges x low high) p
after_range p (N.Two x n m) low high = p

abbrev pub after : Progress → Line → Progress
after p (rule n) = due P.Module p
after p (heading h) = due (after_heading h) p
after p (range x low high) = after_range p x low high
after p (define d) = record { phase = p.phase; ranges = p.ranges; names = p.names ++ d.name ∷ [] }
after p (constrain c g) = due (after_constraint c) p

-- each line is right where it stands
abbrev pub RightLines : Progress → List Line → Type 0
RightLines p [] = Unit {0}
RightLines p (l ∷ ls) = (LineShaped p l × LineNamed p l) × RightLines (after p l) ls

abbrev pub progress : Progress → List Line → Progress
progress p [] = p
progress p (l ∷ ls) = progress (after p l) ls
