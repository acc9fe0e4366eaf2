-- Guards and terms: what is of a kind but for its names, and the kind of each name.
use Rattle.model_text.specs.declared.words.Kind.{Kind}
use Rattle.model_text.specs.declared.words.Kind.TheVariants.{Guard, Term}
use Rattle.model_text.specs.declared.words.Operator.TheVariants.{Join, Test, Sum}
use Rattle.model_text.specs.declared.words.Single.{Single}
use Rattle.model_text.specs.declared.words.Single.TheVariants.{Choice, Location, Variable, SettledValue, Permission, PlantsOpen, LocationMarked}
use Rattle.model_text.specs.declared.words.Double.{Double}
use Rattle.model_text.specs.declared.words.Double.TheVariants.{Transition, WishStatus, WishValue, JoinedStatus, JoinedValue, Open}
use Rattle.model_text.specs.declared.words.Name.{Name}
use Rattle.model_text.specs.declared.words.Name.TheVariants as N
use Rattle.model_text.specs.declared.words.Word.{Word}
use Rattle.model_text.specs.declared.words.Word.TheVariants as W
use Rattle.model_text.specs.Trees.{Sort, Tree, word, next, minus, negate, binary, choose, last, entry}

-- `y` is a guard
abbrev pub single_kind : Single → Kind
single_kind Choice = Term
single_kind Location = Term
single_kind Variable = Term
single_kind SettledValue = Term
single_kind Permission = Guard
single_kind PlantsOpen = Term
single_kind LocationMarked = Term

-- `t` is a guard
abbrev pub double_kind : Double → Kind
double_kind Transition = Guard
double_kind WishStatus = Term
double_kind WishValue = Term
double_kind JoinedStatus = Term
double_kind JoinedValue = Term
double_kind Open = Term

abbrev pub kind_of : Name → Kind
kind_of N.Event = Term
kind_of N.Marked = Term
kind_of (N.One x n) = single_kind x
kind_of (N.Two x n m) = double_kind x

abbrev pub WordFits : Kind → Word → Type 0
WordFits Guard (W.Truth b) = Unit {0}
WordFits Term (W.Truth b) = ⊥
WordFits Guard (W.Number n) = ⊥
WordFits Term (W.Number n) = Unit {0}
WordFits k (W.Name x) = Unit {0}

-- it is of the kind, where each name may be of either
abbrev pub Fits : {x : Sort} → Kind → Tree x → Type 0
Fits k (word w) = WordFits k w
Fits Guard (next x n) = ⊥
Fits Term (next x n) = Unit {0}
Fits Guard (minus n) = ⊥
Fits Term (minus n) = Unit {0}
Fits Guard (negate a) = Fits Guard a
Fits Term (negate a) = ⊥
Fits Guard (binary (Join j) a b) = Fits Guard a × Fits Guard b
Fits Guard (binary (Test o) a b) = Fits Term a × Fits Term b
Fits Guard (binary (Sum o) a b) = ⊥
Fits Term (binary (Join j) a b) = ⊥
Fits Term (binary (Test o) a b) = ⊥
Fits Term (binary (Sum o) a b) = Fits Term a × Fits Term b
Fits Guard (choose es) = ⊥
Fits Term (choose es) = Fits Term es
Fits Guard (last t) = ⊥
Fits Term (last t) = Fits Term t
Fits Guard (entry g t es) = ⊥
Fits Term (entry g t es) = Fits Guard g × Fits Term t × Fits Term es
