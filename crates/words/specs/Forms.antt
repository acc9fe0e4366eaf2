-- The forms that are read: which things are good, how one is printed, and what may follow it.
use Rattle.std.specs.Prelude.{ℕ, ◌<◌, ◌≤◌, min, List, [], ◌∷◌, ◌++◌, ℤ, decimal, unsigned_abs}
use Rattle.std.specs.Fmt.{signed_decimal}
use Rattle.model_text.specs.declared.words.Name.{Name}
use Rattle.model_text.specs.declared.words.Name.TheVariants as N
use Rattle.model_text.specs.declared.words.Operator.{Operator}
use Rattle.model_text.specs.declared.words.Single.{Single}
use Rattle.model_text.specs.declared.words.Word.{Word}
use Rattle.model_text.specs.Words.{name_text, spelled, operator_text, GoodName, GoodWord, Stops}
use Rattle.model_text.specs.Trees.{HasNext}
use Rattle.words.specs.Digits.{NoDigit}

pub record Form (A : Type 0) : Type 1 where
  pub good : A → Type 0
  pub text : A → List ℕ
  pub follow : List ℕ → Type 0

-- anything may follow
abbrev pub Anything : List ℕ → Type 0
Anything rest = Unit {0}

-- a number up to max
abbrev pub numbers : ℕ → Form ℕ
numbers max = record { good = λ n. n ≤ max; text = decimal; follow = NoDigit }

-- a number with its sign, up to max on both sides and within 32 bits
abbrev pub signeds : ℕ → Form ℤ
signeds max = record { good = λ z. unsigned_abs z ≤ min max 2147483647; text = signed_decimal; follow = NoDigit }

-- behind `(-`: a number above 0, and a closing parenthesis
abbrev pub minuses : Form ℕ
minuses = record { good = λ n. (0 < n) × (n ≤ 32768); text = λ n. decimal n ++ (41 ∷ []); follow = Anything }

abbrev pub names : Form Name
names = record { good = GoodName; text = name_text; follow = Stops }

abbrev pub words : Form Word
words = record { good = GoodWord; text = spelled; follow = Stops }

-- an operator with its spaces
abbrev pub operators : Form Operator
operators = record { good = λ o. Unit {0}; text = operator_text; follow = Anything }

-- behind `next(`: a name that has a next value, and a closing parenthesis
abbrev pub nexts : Form (Single × ℕ)
nexts = record { good = λ p. HasNext p.0 × (p.1 ≤ 999); text = λ p. name_text (N.One p.0 p.1) ++ (41 ∷ []); follow = Anything }
