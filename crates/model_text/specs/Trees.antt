-- Expressions of a text as trees, in which a name may stand anywhere, and how they are printed.
use Rattle.std.specs.Prelude.{ℕ, suc, ◌<◌, ◌≤◌, max, List, ◌++◌, codes, decimal}
use Rattle.model_text.specs.declared.words.Operator.{Operator}
use Rattle.model_text.specs.declared.words.Single.{Single}
use Rattle.model_text.specs.declared.words.Single.TheVariants.{Choice, Location, Variable, SettledValue, Permission, PlantsOpen, LocationMarked}
use Rattle.model_text.specs.declared.words.Word.{Word}
use Rattle.model_text.specs.declared.words.Name.TheVariants as N
use Rattle.model_text.specs.Words.{spelled, name_text, GoodWord, operator_text, Stops}

-- an expression, or the entries of a case
pub data Sort : Type 0 where
  expr entries : Sort

pub data Tree : Sort → Type 0 where
  word : Word → Tree expr
  next : Single → ℕ → Tree expr
  minus : ℕ → Tree expr
  negate : Tree expr → Tree expr
  binary : Operator → Tree expr → Tree expr → Tree expr
  choose : Tree entries → Tree expr
  last : Tree expr → Tree entries
  entry : Tree expr → Tree expr → Tree entries → Tree entries

abbrev pub print : {x : Sort} → Tree x → List ℕ
print (word w) = spelled w
print (next x n) = codes "next(" ++ (name_text (N.One x n) ++ codes ")")
print (minus n) = codes "(-" ++ (decimal n ++ codes ")")
print (negate a) = codes "(!" ++ (print a ++ codes ")")
print (binary o a b) = codes "(" ++ (print a ++ (operator_text o ++ (print b ++ codes ")")))
print (choose es) = codes "(case " ++ print es
print (last t) = codes "TRUE : " ++ (print t ++ codes "; esac)")
print (entry g t es) = print g ++ (codes " : " ++ (print t ++ (codes "; " ++ print es)))

-- a location or a variable has a next value
abbrev pub HasNext : Single → Type 0
HasNext Choice = ⊥
HasNext Location = Unit {0}
HasNext Variable = Unit {0}
HasNext SettledValue = ⊥
HasNext Permission = ⊥
HasNext PlantsOpen = ⊥
HasNext LocationMarked = ⊥

-- the numbers are in range, and `next` stands on what has a next value
abbrev pub Good : {x : Sort} → Tree x → Type 0
Good (word w) = GoodWord w
Good (next x n) = HasNext x × (n ≤ 999)
Good (minus n) = (0 < n) × (n ≤ 32768)
Good (negate a) = Good a
Good (binary o a b) = Good a × Good b
Good (choose es) = Good es
Good (last t) = Good t
Good (entry g t es) = Good g × Good t × Good es

-- how many parentheses are open together at most; those of `next` do not count
abbrev pub opens : {x : Sort} → Tree x → ℕ
opens (word w) = 0
opens (next x n) = 0
opens (minus n) = 1
opens (negate a) = suc (opens a)
opens (binary o a b) = suc (max (opens a) (opens b))
opens (choose es) = suc (opens es)
opens (last t) = opens t
opens (entry g t es) = max (opens g) (max (opens t) (opens es))

-- what may follow, so that the text ends here
abbrev pub Ends : {x : Sort} → Tree x → List ℕ → Type 0
Ends (word w) rest = Stops rest
Ends (next x n) rest = Unit {0}
Ends (minus n) rest = Unit {0}
Ends (negate a) rest = Unit {0}
Ends (binary o a b) rest = Unit {0}
Ends (choose es) rest = Unit {0}
Ends (last t) rest = Unit {0}
Ends (entry g t es) rest = Unit {0}
