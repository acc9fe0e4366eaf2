-- Guards and terms: their tree, byte code, depth, value, and which are well formed.
use Rattle.std.specs.Prelude.{ℕ, suc, ◌<◌, ◌≤◌, max, Bool, cond, not, ◌&&◌, ◌||◌, List, [], ◌∷◌, ◌++◌, length, ℤ, ◌+ℤ◌, ◌-ℤ◌, FitsSigned, int_le, int_lt}
use Rattle.std.specs.Int.{w16}
use Rattle.std.proofs.Common.{of_z}
use Rattle.scan.specs.Stands.{two_bytes}
use Rattle.expr.specs.declared.code.Joint.{Joint}
use Rattle.expr.specs.declared.code.Joint.TheVariants.{And, Or}
use Rattle.expr.specs.declared.code.Order.{Order}
use Rattle.expr.specs.declared.code.Order.TheVariants.{Eq, Ne, Lt, Le}
use Rattle.expr.specs.declared.code.Sign.{Sign}
use Rattle.expr.specs.declared.code.Sign.TheVariants.{Plus, Minus}
use Rattle.expr.specs.Codes.{truth_byte, joint_byte, order_byte, sign_byte}

pub data Kind : Type 0 where
  guard term : Kind

pub data Expr : Kind → Type 0 where
  truth : Bool → Expr guard
  negate : Expr guard → Expr guard
  join : Joint → Expr guard → Expr guard → Expr guard
  test : Order → Expr term → Expr term → Expr guard
  literal : ℤ → Expr term
  variable : ℕ → Expr term
  sum : Sign → Expr term → Expr term → Expr term
  branch : Expr guard → Expr term → Expr term → Expr term

-- a value in two bytes, in two's complement, the high byte first
abbrev pub value_bytes : ℤ → List ℕ
value_bytes v = two_bytes (of_z w16 v)

-- the byte code: the operator first, then its parts
abbrev pub bytes_of : {k : Kind} → Expr k → List ℕ
bytes_of (truth b) = truth_byte b ∷ []
bytes_of (negate a) = 0x03 ∷ bytes_of a
bytes_of (join j a b) = joint_byte j ∷ (bytes_of a ++ bytes_of b)
bytes_of (test o a b) = order_byte o ∷ (bytes_of a ++ bytes_of b)
bytes_of (literal v) = 0x10 ∷ value_bytes v
bytes_of (variable v) = 0x11 ∷ (v ∷ [])
bytes_of (sum o a b) = sign_byte o ∷ (bytes_of a ++ bytes_of b)
bytes_of (branch g a b) = 0x14 ∷ (bytes_of g ++ (bytes_of a ++ bytes_of b))

-- one without parts has depth 1
abbrev pub depth : {k : Kind} → Expr k → ℕ
depth (truth b) = 1
depth (negate a) = suc (depth a)
depth (join j a b) = suc (max (depth a) (depth b))
depth (test o a b) = suc (max (depth a) (depth b))
depth (literal v) = 1
depth (variable v) = 1
depth (sum o a b) = suc (max (depth a) (depth b))
depth (branch g a b) = suc (max (depth g) (max (depth a) (depth b)))

-- P holds of each variable that is used, and Q of each literal
abbrev pub Leaves : (ℕ → Type 0) → (ℤ → Type 0) → {k : Kind} → Expr k → Type 0
Leaves P Q (truth b) = Unit {0}
Leaves P Q (negate a) = Leaves P Q a
Leaves P Q (join j a b) = Leaves P Q a × Leaves P Q b
Leaves P Q (test o a b) = Leaves P Q a × Leaves P Q b
Leaves P Q (literal v) = Q v
Leaves P Q (variable v) = P v
Leaves P Q (sum o a b) = Leaves P Q a × Leaves P Q b
Leaves P Q (branch g a b) = Leaves P Q g × Leaves P Q a × Leaves P Q b

-- at most 255 bytes and 16 deep, over the first n variables, its literals values of 16 bits
pub record Formed (n : ℕ) {k : Kind} (e : Expr k) : Type 0 where
  pub short : length (bytes_of e) ≤ 255
  pub shallow : depth e ≤ 16
  pub leaves : Leaves (λ v. v < n) (FitsSigned w16) e

abbrev pub Value : Kind → Type 0
Value guard = Bool
Value term = ℤ

abbrev pub joined : Joint → Bool → Bool → Bool
joined And a b = a && b
joined Or a b = a || b

abbrev pub tested : Order → ℤ → ℤ → Bool
tested Eq a b = int_le a b && int_le b a
tested Ne a b = not (int_le a b && int_le b a)
tested Lt a b = int_lt a b
tested Le a b = int_le a b

abbrev pub summed : Sign → ℤ → ℤ → ℤ
summed Plus a b = a +ℤ b
summed Minus a b = a -ℤ b

-- the value, where each variable has a whole number
abbrev pub eval : {k : Kind} → (ℕ → ℤ) → Expr k → Value k
eval at (truth b) = b
eval at (negate a) = not (eval at a)
eval at (join j a b) = joined j (eval at a) (eval at b)
eval at (test o a b) = tested o (eval at a) (eval at b)
eval at (literal v) = v
eval at (variable v) = at v
eval at (sum o a b) = summed o (eval at a) (eval at b)
eval at (branch g a b) = cond (eval at g) (eval at a) (eval at b)
