-- Which names may stand where: the places of a text, and the names that are known there.
use Rattle.std.specs.Prelude.{◌≡◌, ℕ, ◌<◌, ◌⊎◌, List, [], ◌∷◌, length}
use Rattle.model_text.specs.declared.words.Kind.{Kind}
use Rattle.model_text.specs.declared.words.Kind.TheVariants.{Guard, Term}
use Rattle.model_text.specs.declared.words.Operator.TheVariants.{Join, Test, Sum}
use Rattle.model_text.specs.declared.words.Single.{Single}
use Rattle.model_text.specs.declared.words.Single.TheVariants.{Choice, Location, Variable, SettledValue, Permission, PlantsOpen, LocationMarked}
use Rattle.model_text.specs.declared.words.Double.{Double}
use Rattle.model_text.specs.declared.words.Double.TheVariants.{Transition, WishStatus, WishValue, JoinedStatus, JoinedValue, Open}
use Rattle.model_text.specs.declared.words.Name.{Name}
use Rattle.model_text.specs.declared.words.Name.TheVariants as N
use Rattle.model_text.specs.declared.words.Word.{Word}
use Rattle.model_text.specs.declared.words.Word.TheVariants as W
use Rattle.model_text.specs.Trees.{Sort, Tree, word, next, minus, negate, binary, choose, last, entry}
use Rattle.model_text.specs.Ranges.{Ranges}
use Rattle.model_text.specs.Kinds.{kind_of}

-- a line that speaks of a state alone, one that may name inputs too, and one that may also name the next state
pub data Place : Type 0 where
  of-state with-inputs of-step : Place

-- of the names with one number, those that definitions introduce
abbrev pub SingleDefined : Single → Type 0
SingleDefined Choice = ⊥
SingleDefined Location = ⊥
SingleDefined Variable = ⊥
SingleDefined SettledValue = Unit {0}
SingleDefined Permission = Unit {0}
SingleDefined PlantsOpen = Unit {0}
SingleDefined LocationMarked = Unit {0}

-- a name that a definition may introduce
abbrev pub Definable : Name → Type 0
Definable N.Event = ⊥
Definable N.Marked = Unit {0}
Definable (N.One x n) = SingleDefined x
Definable (N.Two x n m) = Unit {0}

-- where the definition of a name stands: `n`, `p`, `l` and `mk` speak of a state alone
abbrev pub single_place : Single → Place
single_place Choice = with-inputs
single_place Location = of-state
single_place Variable = of-state
single_place SettledValue = with-inputs
single_place Permission = with-inputs
single_place PlantsOpen = of-state
single_place LocationMarked = of-state

abbrev pub double_place : Double → Place
double_place Transition = with-inputs
double_place WishStatus = with-inputs
double_place WishValue = with-inputs
double_place JoinedStatus = with-inputs
double_place JoinedValue = with-inputs
double_place Open = of-state

abbrev pub place_of : Name → Place
place_of N.Event = with-inputs
place_of N.Marked = of-state
place_of (N.One x n) = single_place x
place_of (N.Two x n m) = double_place x

-- a line that speaks of a state alone uses names that do so
abbrev pub Allows : Place → Name → Type 0
Allows of-state x = place_of x ≡ of-state
Allows with-inputs x = Unit {0}
Allows of-step x = Unit {0}

abbrev pub AllowsNext : Place → Type 0
AllowsNext of-state = ⊥
AllowsNext with-inputs = ⊥
AllowsNext of-step = Unit {0}

-- x is one of the names
abbrev pub Among : List Name → Name → Type 0
Among [] x = ⊥
Among (y ∷ ys) x = (x ≡ y) ⊎ Among ys x

-- of the names with one number, those that the ranges declare
abbrev pub Ranged : Ranges → Single → ℕ → Type 0
Ranged r Choice n = n < length r.choices
Ranged r Location n = n < length r.locations
Ranged r Variable n = n < length r.values
Ranged r SettledValue n = ⊥
Ranged r Permission n = ⊥
Ranged r PlantsOpen n = ⊥
Ranged r LocationMarked n = ⊥

abbrev pub Declared : Ranges → Name → Type 0
Declared r N.Event = Unit {0}
Declared r N.Marked = ⊥
Declared r (N.One x n) = Ranged r x n
Declared r (N.Two x n m) = ⊥

-- declared by the ranges, or defined so far
abbrev pub Known : Ranges → List Name → Name → Type 0
Known r before x = Declared r x ⊎ Among before x

-- `next` stands only where a line may name the next state
abbrev pub Nexts : Place → {x : Sort} → Tree x → Type 0
Nexts p (word w) = Unit {0}
Nexts p (next x n) = AllowsNext p
Nexts p (minus n) = Unit {0}
Nexts p (negate a) = Nexts p a
Nexts p (binary o a b) = Nexts p a × Nexts p b
Nexts p (choose es) = Nexts p es
Nexts p (last t) = Nexts p t
Nexts p (entry g t es) = Nexts p g × Nexts p t × Nexts p es

abbrev pub UndefinedWord : Word → Type 0
UndefinedWord (W.Truth b) = Unit {0}
UndefinedWord (W.Number n) = Unit {0}
UndefinedWord (W.Name x) = Definable x → ⊥

-- no name that a definition introduces is used
abbrev pub Undefined : {x : Sort} → Tree x → Type 0
Undefined (word w) = UndefinedWord w
Undefined (next x n) = Unit {0}
Undefined (minus n) = Unit {0}
Undefined (negate a) = Undefined a
Undefined (binary o a b) = Undefined a × Undefined b
Undefined (choose es) = Undefined es
Undefined (last t) = Undefined t
Undefined (entry g t es) = Undefined g × Undefined t × Undefined es

abbrev pub WordNamed : (Name → Type 0) → Kind → Word → Type 0
WordNamed K k (W.Truth b) = Unit {0}
WordNamed K k (W.Number n) = Unit {0}
WordNamed K k (W.Name x) = K x × (kind_of x ≡ k)

-- each name is one that K allows and is of the kind of its place, and none beneath plus or minus is defined
abbrev pub Named : (Name → Type 0) → Kind → {x : Sort} → Tree x → Type 0
Named K k (word w) = WordNamed K k w
Named K k (next x n) = K (N.One x n)
Named K k (minus n) = Unit {0}
Named K k (negate a) = Named K Guard a
Named K k (binary (Join j) a b) = Named K Guard a × Named K Guard b
Named K k (binary (Test o) a b) = Named K Term a × Named K Term b
Named K k (binary (Sum o) a b) = (Undefined a × Undefined b) × (Named K Term a × Named K Term b)
Named K k (choose es) = Named K Term es
Named K k (last t) = Named K Term t
Named K k (entry g t es) = Named K Guard g × Named K Term t × Named K Term es
