-- Whether an expression is plain, by computing.
use Rattle.std.specs.Prelude.{◌≡◌, ℕ, ◌^◌, ◌<◌, Bool, true, false, ◌&&◌, length, FitsSigned, nat_le, nat_lt}
use Rattle.std.specs.Int.{w16}
use Rattle.std.specs.Int.Signed.{mag}
use Rattle.std.proofs.lemmas.Bool.{and_parts, false≢true, ltb-true, leb-true}
use Rattle.expr.specs.Expr.{Kind, Expr, truth, negate, join, test, literal, variable, sum, branch, bytes_of, depth, Leaves}
use Rattle.clash.specs.Rules.{Sumless, Plain}

-- only variables below n, values of 16 bits, and no sum
abbrev within : ℕ → {k : Kind} → Expr k → Bool
within n (truth b) = true
within n (negate a) = within n a
within n (join j a b) = within n a && within n b
within n (test o a b) = within n a && within n b
within n (literal v) = nat_lt (mag v) (2 ^ 15)
within n (variable v) = nat_lt v n
within n (sum o a b) = false
within n (branch g a b) = within n g && (within n a && within n b)

abbrev pub checks : ℕ → {k : Kind} → Expr k → Bool
checks n e = within n e && (nat_le (length (bytes_of e)) 255 && nat_le (depth e) 16)

module _ (n : ℕ) where
  Good : {k : Kind} → Expr k → Type 0
  Good e = Leaves (λ v. v < n) (FitsSigned w16) e × Sumless e

  good : {k : Kind} (e : Expr k) → within n e ≡ true → Good e
  unfolding Good
  good (truth b) h = (tt, tt)
  good (negate a) h = good a h
  good (join j a b) h = let p = and_parts (within n a) (within n b) h in let x = good a p.0 in let y = good b p.1 in ((x.0, y.0), (x.1, y.1))
  good (test o a b) h = let p = and_parts (within n a) (within n b) h in let x = good a p.0 in let y = good b p.1 in ((x.0, y.0), (x.1, y.1))
  good (literal v) h = (record { sfits = ltb-true (mag v) (2 ^ 15) h }, tt)
  good (variable v) h = (ltb-true v n h, tt)
  good (sum o a b) h = absurd (false≢true h)
  good (branch g a b) h =
      let p = and_parts (within n g) (within n a && within n b) h in
      let q = and_parts (within n a) (within n b) p.1 in
      let x = good g p.0 in
      let y = good a q.0 in
      let z = good b q.1 in
      ((x.0, y.0, z.0), (x.1, y.1, z.1))

  pub plain : {k : Kind} (e : Expr k) → checks n e ≡ true → Plain n e
  unfolding Good
  plain e h =
      let p = and_parts (within n e) (nat_le (length (bytes_of e)) 255 && nat_le (depth e) 16) h in
      let q = and_parts (nat_le (length (bytes_of e)) 255) (nat_le (depth e) 16) p.1 in
      let x = good e p.0 in
      record {
        formed = record { short = leb-true (length (bytes_of e)) 255 q.0; shallow = leb-true (depth e) 16 q.1; leaves = x.0 };
        sumless = x.1;
      }
