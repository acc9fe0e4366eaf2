-- Rules by which equal values join, unequal ones clash, and a clash settles to the old value.
use Rattle.std.specs.Prelude.{◌≡◌, ℕ, ◌≤◌, Bool, true, cond, not, ◌||◌, ℤ, pos}
use Rattle.expr.specs.Expr.{guard, term, Expr, join, test, literal, variable, branch, tested, eval}
use Rattle.expr.specs.declared.code.Joint.TheVariants.{And}
use Rattle.expr.specs.declared.code.Order.TheVariants.{Eq}
use Rattle.clash.specs.Rules.{ClashRule, Plain, of_wish}
use Rattle.clash.specs.Wishes.{Wish, Status, none, single, clash, is_clash}
use Rattle.clash.specs.declared.wish.Status.TheVariants.{Nothing, Single, Clash}

abbrev pub beside : Status → Status → Wish → Wish → Wish
beside Nothing s a b = b
beside Single Nothing a b = a
beside Single Single a b = cond (tested Eq a.value b.value) a clash
beside Single Clash a b = clash
beside Clash s a b = clash

abbrev pub joins_equal : Wish → Wish → Wish
joins_equal a b = beside a.status b.status a b

abbrev pub own : Status → ℤ → ℤ → ℤ
own Nothing v old = old
own Single v old = v
own Clash v old = old

abbrev pub settles_own : Wish → ℤ → ℤ
settles_own w old = own w.status w.value old

abbrev pub is : ℕ → ℕ → Expr guard
is v n = test Eq (variable v) (literal (pos n))

-- two wishes for equal values
abbrev pub agreeing : Expr guard
agreeing = join And (join And (is 0 1) (is 2 1)) (test Eq (variable 1) (variable 3))

-- the second where the first is none, the first where the second is none, then by whether the values agree
abbrev pub by_wishes : Expr term → Expr term → Expr term → Expr term → Expr term
by_wishes second first equal unequal = branch (is 0 0) second (branch (is 2 0) first (branch agreeing equal unequal))

abbrev pub equal_status : Expr term
equal_status = by_wishes (variable 2) (variable 0) (literal (pos 1)) (literal (pos 2))

abbrev pub equal_value : Expr term
equal_value = by_wishes (variable 3) (variable 1) (variable 1) (literal (pos 0))

abbrev pub own_value : Expr term
own_value = branch (is 0 1) (variable 1) (variable 2)

abbrev pub equal_values : ℕ → (Wish → ℤ → Bool) → Expr guard → ClashRule
equal_values n permits permission = record {
  number = n;
  joins = joins_equal;
  settles = settles_own;
  permits = permits;
  joined_status = equal_status;
  joined_value = equal_value;
  settled_value = own_value;
  permission = permission;
}

-- a clash at the old values at which the rule permits it, and every other wish
abbrev pub permitted : (ℤ → Bool) → Wish → ℤ → Bool
permitted permits_clash w old = permits_clash old || not (is_clash w.status)

-- what such a rule adds: its number, when it permits a clash, and a guard that says whether each wish is permitted
pub record Permission (n : ℕ) (permits_clash : ℤ → Bool) (permission : Expr guard) : Type 0 where
  pub number_low : 1 ≤ n
  pub number_high : n ≤ 999
  pub plain : Plain 3 permission
  pub says_none : (old : ℤ) → eval (of_wish none old) permission ≡ true
  pub says_single : (v old : ℤ) → eval (of_wish (single v) old) permission ≡ true
  pub says_clash : (old : ℤ) → eval (of_wish clash old) permission ≡ permits_clash old
