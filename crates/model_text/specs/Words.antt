-- How words and operators are spelled.
use Rattle.std.specs.Prelude.{◌≡◌, ℕ, ◌≤◌, ◌⊎◌, List, [], ◌∷◌, ◌++◌, codes, decimal}
use Rattle.expr.specs.Text.{truth_text, joint_text, order_text, sign_text}
use Rattle.model_text.specs.declared.words.Operator.{Operator}
use Rattle.model_text.specs.declared.words.Operator.TheVariants.{Join, Test, Sum}
use Rattle.model_text.specs.declared.words.Single.{Single}
use Rattle.model_text.specs.declared.words.Single.TheVariants.{Choice, Location, Variable, SettledValue, Permission, PlantsOpen, LocationMarked}
use Rattle.model_text.specs.declared.words.Double.{Double}
use Rattle.model_text.specs.declared.words.Double.TheVariants.{Transition, WishStatus, WishValue, JoinedStatus, JoinedValue, Open}
use Rattle.model_text.specs.declared.words.Name.{Name}
use Rattle.model_text.specs.declared.words.Name.TheVariants as N
use Rattle.model_text.specs.declared.words.Word.{Word}
use Rattle.model_text.specs.declared.words.Word.TheVariants as W

-- the letter, in ASCII: c, s, u, z, y, p, l
abbrev pub single : Single → ℕ
single Choice = 99
single Location = 115
single Variable = 117
single SettledValue = 122
single Permission = 121
single PlantsOpen = 112
single LocationMarked = 108

-- t, w, d, a, b, n
abbrev pub double : Double → ℕ
double Transition = 116
double WishStatus = 119
double WishValue = 100
double JoinedStatus = 97
double JoinedValue = 98
double Open = 110

abbrev pub name_text : Name → List ℕ
name_text N.Event = codes "ev"
name_text N.Marked = codes "mk"
name_text (N.One x n) = single x ∷ decimal n
name_text (N.Two x n m) = double x ∷ (decimal n ++ (95 ∷ decimal m))

abbrev pub spelled : Word → List ℕ
spelled (W.Truth b) = truth_text b
spelled (W.Number n) = decimal n
spelled (W.Name x) = name_text x

-- the number parts of a name
abbrev pub GoodName : Name → Type 0
GoodName N.Event = Unit {0}
GoodName N.Marked = Unit {0}
GoodName (N.One x n) = n ≤ 999
GoodName (N.Two x n m) = (n ≤ 999) × (m ≤ 999)

abbrev pub GoodWord : Word → Type 0
GoodWord (W.Truth b) = Unit {0}
GoodWord (W.Number n) = n ≤ 32768
GoodWord (W.Name x) = GoodName x

-- with the spaces around it
abbrev pub operator_text : Operator → List ℕ
operator_text (Join j) = joint_text j
operator_text (Test o) = order_text o
operator_text (Sum o) = sign_text o

-- a byte that ends a word: a space, a closing parenthesis, a semicolon
pub record Stop (b : ℕ) : Type 0 where
  pub stop : (b ≡ 32) ⊎ ((b ≡ 41) ⊎ (b ≡ 59))

-- what cannot carry a word on
abbrev pub Stops : List ℕ → Type 0
Stops [] = Unit {0}
Stops (b ∷ rest) = Stop b
