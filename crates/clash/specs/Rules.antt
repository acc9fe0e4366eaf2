-- What a clash rule answers, and the laws that each rule keeps.
use Rattle.std.specs.Prelude.{◌≡◌, ℕ, zero, suc, ◌≤◌, Bool, true, ◌⊎◌, ℤ, pos}
use Rattle.expr.specs.Expr.{Kind, guard, term, Expr, truth, negate, join, test, literal, variable, sum, branch, Formed, eval}
use Rattle.clash.specs.Wishes.{Wish, none, single, clash, status_number}

-- the number, the join and the settling, and an expression for each part of an answer
pub record ClashRule : Type 0 where
  pub number : ℕ
  pub joins : Wish → Wish → Wish
  pub settles : Wish → ℤ → ℤ
  pub permits : Wish → ℤ → Bool
  pub joined_status : Expr term
  pub joined_value : Expr term
  pub settled_value : Expr term
  pub permission : Expr guard

-- variables 0 to 3: status and value of the first wish, then of the second
abbrev pub of_pair : Wish → Wish → ℕ → ℤ
of_pair a b zero = status_number a.status
of_pair a b (suc zero) = a.value
of_pair a b (suc (suc zero)) = status_number b.status
of_pair a b (suc (suc (suc n))) = b.value

-- variables 0 to 2: status and value of a wish, and the old value
abbrev pub of_wish : Wish → ℤ → ℕ → ℤ
of_wish w old zero = status_number w.status
of_wish w old (suc zero) = w.value
of_wish w old (suc (suc n)) = old

-- neither plus nor minus
abbrev pub Sumless : {k : Kind} → Expr k → Type 0
Sumless (truth b) = Unit {0}
Sumless (negate a) = Sumless a
Sumless (join j a b) = Sumless a × Sumless b
Sumless (test o a b) = Sumless a × Sumless b
Sumless (literal v) = Unit {0}
Sumless (variable v) = Unit {0}
Sumless (sum o a b) = ⊥
Sumless (branch g a b) = Sumless g × Sumless a × Sumless b

-- well formed over the first n variables, without plus and minus
pub record Plain (n : ℕ) {k : Kind} (e : Expr k) : Type 0 where
  pub formed : Formed n e
  pub sumless : Sumless e

-- what each rule keeps: its number's range, the laws of joining and of settling, and what its expressions say
pub record Lawful (rule : ClashRule) : Type 0 where
  pub number_low : 1 ≤ rule.number
  pub number_high : rule.number ≤ 999
  pub none_joins : (x : Wish) → rule.joins none x ≡ x
  pub commutes : (x y : Wish) → rule.joins x y ≡ rule.joins y x
  pub associates : (x y z : Wish) → rule.joins (rule.joins x y) z ≡ rule.joins x (rule.joins y z)
  pub from_parts : (x y : Wish) → ((rule.joins x y).value ≡ pos 0) ⊎ (((rule.joins x y).value ≡ x.value) ⊎ ((rule.joins x y).value ≡ y.value))
  pub none_settles : (old : ℤ) → rule.settles none old ≡ old
  pub single_settles : (v old : ℤ) → rule.settles (single v) old ≡ v
  pub clash_settles : (old : ℤ) → rule.settles clash old ≡ old
  pub none_permitted : (old : ℤ) → rule.permits none old ≡ true
  pub single_permitted : (v old : ℤ) → rule.permits (single v) old ≡ true
  pub status_plain : Plain 4 rule.joined_status
  pub value_plain : Plain 4 rule.joined_value
  pub settled_plain : Plain 3 rule.settled_value
  pub permission_plain : Plain 3 rule.permission
  pub says_status : (x y : Wish) → eval (of_pair x y) rule.joined_status ≡ status_number (rule.joins x y).status
  pub says_value : (x y : Wish) → eval (of_pair x y) rule.joined_value ≡ (rule.joins x y).value
  pub says_settled : (w : Wish) (old : ℤ) → eval (of_wish w old) rule.settled_value ≡ rule.settles w old
  pub says_permission : (w : Wish) (old : ℤ) → eval (of_wish w old) rule.permission ≡ rule.permits w old
