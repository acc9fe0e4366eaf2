-- The guards and terms of a system and of a clash rule, as trees of the text.
use Rattle.std.specs.Prelude.{ℕ, zero, suc, ℤ, pos, negsuc}
use Rattle.expr.specs.Expr.{Kind, Expr, truth, negate, join, test, literal, variable, sum, branch}
use Rattle.expr.specs.declared.code.Order.{Order}
use Rattle.expr.specs.declared.code.Order.TheVariants.{Eq, Ne}
use Rattle.model_text.specs.declared.words.Operator.TheVariants.{Join, Test, Sum}
use Rattle.model_text.specs.declared.words.Single.TheVariants.{Variable}
use Rattle.model_text.specs.declared.words.Double.TheVariants.{WishStatus, WishValue, JoinedStatus, JoinedValue}
use Rattle.model_text.specs.declared.words.Name.{Name}
use Rattle.model_text.specs.declared.words.Name.TheVariants as N
use Rattle.model_text.specs.declared.words.Word.TheVariants as W
use Rattle.model_text.specs.Trees as T

abbrev pub name : Name → T.Tree T.expr
name x = T.word (W.Name x)

abbrev pub count : ℕ → T.Tree T.expr
count n = T.word (W.Number n)

-- `7`, or `(-7)`
abbrev pub number : ℤ → T.Tree T.expr
number (pos n) = count n
number (negsuc n) = T.minus (suc n)

-- an expression whose variables have names
abbrev pub written : (ℕ → Name) → {k : Kind} → Expr k → T.Tree T.expr
written f (truth b) = T.word (W.Truth b)
written f (negate a) = T.negate (written f a)
written f (join j a b) = T.binary (Join j) (written f a) (written f b)
written f (test o a b) = T.binary (Test o) (written f a) (written f b)
written f (literal v) = number v
written f (variable v) = name (f v)
written f (sum o a b) = T.binary (Sum o) (written f a) (written f b)
written f (branch g a b) = T.choose (T.entry (written f g) (written f a) (T.last (written f b)))

-- the variables of a system: `u0`, `u1` and so on
abbrev pub variable_name : ℕ → Name
variable_name i = N.One Variable i

-- of a join for variable i: the wishes joined so far, up to automaton k, and the wish of the next one
abbrev pub join_name : ℕ → ℕ → ℕ → Name
join_name i k zero = N.Two JoinedStatus i k
join_name i k (suc zero) = N.Two JoinedValue i k
join_name i k (suc (suc zero)) = N.Two WishStatus i (suc k)
join_name i k (suc (suc (suc v))) = N.Two WishValue i (suc k)

-- of settling variable i: the wishes joined up to automaton k, and the old value
abbrev pub settle_name : ℕ → ℕ → ℕ → Name
settle_name i k zero = N.Two JoinedStatus i k
settle_name i k (suc zero) = N.Two JoinedValue i k
settle_name i k (suc (suc v)) = N.One Variable i

-- a name beside a number
abbrev pub compared : Name → Order → ℕ → T.Tree T.expr
compared x o n = T.binary (Test o) (name x) (count n)

abbrev pub is_at : Name → ℕ → T.Tree T.expr
is_at x n = compared x Eq n

abbrev pub is_not : Name → ℕ → T.Tree T.expr
is_not x n = compared x Ne n
