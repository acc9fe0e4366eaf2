-- How large the value of a term is, by the bytes that it takes, and what an evaluator answers.
use Rattle.std.proofs.Common.{◌≡◌, ℕ, ◌+◌, ◌-◌, ◌≤◌, List, length, ℤ, pos, negsuc, arith, w16, w32, SFits, to_z, of_z}
use Rattle.std.proofs.lemmas.Int.{ints, to_z-of_z}
use Rattle.expr.specs.declared.code.Sign.{Sign}
use Rattle.expr.specs.declared.code.Sign.TheVariants.{Plus, Minus}
use Rattle.expr.specs.Expr.{term, Expr, eval, summed}
use Rattle.expr.specs.Coded.{Coded}
use Rattle.expr.specs.Placed.{Spans}
use Rattle.expr.specs.Values.{value_of, Within, Small}
use Rattle.expr.proofs.Places.{coded_placed}

pub within-sum : (o : Sign) (p q n : ℕ) (a b : ℤ) → Within p a → Within q b → p + q + 1 ≤ n → Within n (summed o a b)
within-sum Plus p q n a b ha hb h = record { low = omega (arith, ints); high = omega (arith, ints) }
within-sum Minus p q n a b ha hb h = record { low = omega (arith, ints); high = omega (arith, ints) }

pub within_more : (p n : ℕ) (a : ℤ) → Within p a → p ≤ n → Within n a
within_more p n a ha h = record { low = omega (arith, ints); high = omega (arith, ints) }

pub within-value : (z : ℤ) → SFits w16 z → Within 2 z
within-value (pos n) h = record { low = omega (arith, ints, h.sfits); high = omega (arith, ints, h.sfits) }
within-value (negsuc n) h = record { low = omega (arith, ints, h.sfits); high = omega (arith, ints, h.sfits) }

pub small : (n : ℕ) (z : ℤ) → n ≤ 255 → Within n z → Small z
small n z few h = let k = within_more n 255 z h few in record { low = omega (arith, ints); high = omega (arith, ints) }

fits : (z : ℤ) → Within 255 z → SFits w32 z
fits (pos n) h = record { sfits = omega (arith, ints, h.high) }
fits (negsuc n) h = record { sfits = omega (arith, ints, h.low) }

-- a value that the code holds is the same number
pub same : (n : ℕ) (z : ℤ) → n ≤ 255 → Within n z → to_z w32 (of_z w32 z) ≡ z
same n z few h = to_z-of_z w32 z (fits z (within_more n 255 z h few))

-- a term's answer, from the value before it is stored
module _ (values : List ℤ) (s : List ℕ) (long : length s ≤ 255) where
  abbrev Worth : ℤ → Expr term → Type 0
  Worth u e = u ≡ eval (value_of values) e

  pub term_done : (at end : ℕ) (u : ℤ) → Spans term s at end (Worth u) → Within (end - at) u → record { spans : Spans term s at end (Worth (to_z w32 (of_z w32 u))); bound : Within (end - at) (to_z w32 (of_z w32 u)) }
  term_done at end u spans bound =
      let few : end - at ≤ 255 = omega (arith, spans.within) in
      rw (same (end - at) u few bound) (record { spans = spans; bound = bound })

  pub literal_done : (at end : ℕ) (v : ℤ) → SFits w16 v → at + 2 ≤ end → Spans term s at end (Worth v) → record { spans : Spans term s at end (Worth (to_z w32 (of_z w32 (to_z w16 (of_z w16 v))))); bound : Within (end - at) (to_z w32 (of_z w32 (to_z w16 (of_z w16 v)))) }
  literal_done at end v fits far spans =
      rw (to_z-of_z w16 v fits) (term_done at end v spans (within_more 2 (end - at) v (within-value v fits) (omega arith)))

  pub term_whole : (end : ℕ) (u : ℤ) → Spans term s 0 end (Worth u) → Within (end - 0) u → record { is : (e : Expr term) → Coded s e → to_z w32 (of_z w32 u) ≡ eval (value_of values) e; bound : Small (to_z w32 (of_z w32 u)) }
  term_whole end u spans bound =
      let few : end - 0 ≤ 255 = omega (arith, spans.within) in
      rw (same (end - 0) u few bound) (record { is = λ e h. spans.holds e (coded_placed s e h); bound = small (end - 0) u few bound })
