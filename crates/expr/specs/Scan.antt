-- Reading an expression from a file, behind its length: which byte is refused, and why.
use Rattle.std.specs.Prelude.{Option, Some, None, ℕ, zero, suc, ◌+◌, ◌*◌, cond, nat_lt}
use Rattle.std.specs.Int.{w16}
use Rattle.std.proofs.Common.{to_z}
use Rattle.scan.specs.declared.refusal.Origin.{Origin}
use Rattle.scan.specs.declared.refusal.FileRule.TheVariants.{KnownNumber, Expression}
use Rattle.scan.specs.Scan.{Scan, done, refuse, ask, and_then}
use Rattle.expr.specs.declared.code.GuardCode.{GuardCode}
use Rattle.expr.specs.declared.code.GuardCode.TheVariants as G
use Rattle.expr.specs.declared.code.TermCode.{TermCode}
use Rattle.expr.specs.declared.code.TermCode.TheVariants as K
use Rattle.expr.specs.Codes.{guard_code, term_code}
use Rattle.expr.specs.Expr.{Kind, guard, term, Expr, truth, negate, join, test, literal, variable, sum, branch}

-- an expression, and how many bytes of its length are left after it
pub record Part (k : Kind) : Type 0 where
  pub expr : Expr k
  pub left : ℕ

-- n variables; every byte is read at the origin o
module _ (n : ℕ) (o : Origin) where
  -- the next byte of an expression; where its length is used up, the last byte is refused
  unfoldable pub next_byte : {A : Type 0} → ℕ → (ℕ → ℕ → Scan A) → Scan A
  next_byte zero go = refuse o Expression
  next_byte (suc left) go = ask o (λ b. go b left)

  abbrev pub Reader : Type 0
  Reader = (k : Kind) → ℕ → Scan (Part k)

  -- one part and what it makes; two parts of one kind and what they make
  abbrev pub one : Reader → (j : Kind) {k : Kind} → ℕ → (Expr j → Expr k) → Scan (Part k)
  one read j left make = and_then (read j left) (λ a. done (record { expr = make a.expr; left = a.left }))

  abbrev pub two : Reader → (j : Kind) {k : Kind} → ℕ → (Expr j → Expr j → Expr k) → Scan (Part k)
  two read j left make = and_then (read j left) (λ a. one read j a.left (make a.expr))

  unfoldable pub guard_by : Reader → ℕ → Option GuardCode → Scan (Part guard)
  guard_by read left (Some (G.Truth b)) = done (record { expr = truth b; left = left })
  guard_by read left (Some G.Not) = one read guard left negate
  guard_by read left (Some (G.Join j)) = two read guard left (join j)
  guard_by read left (Some (G.Test r)) = two read term left (test r)
  guard_by read left None = refuse o Expression

  unfoldable pub term_by : Reader → ℕ → Option TermCode → Scan (Part term)
  term_by read left (Some K.Literal) = next_byte left (λ h more. next_byte more (λ l rest. done (record { expr = literal (to_z w16 (h * 256 + l)); left = rest })))
  term_by read left (Some K.Variable) = next_byte left (λ v rest. cond (nat_lt v n) (done (record { expr = variable v; left = rest })) (refuse o KnownNumber))
  term_by read left (Some (K.Sum r)) = two read term left (sum r)
  term_by read left (Some K.Case) = and_then (read guard left) (λ g. two read term g.left (branch g.expr))
  term_by read left None = refuse o Expression

  -- an expression of a kind that is at most d deep, with that many bytes of its length left
  unfoldable pub parse : ℕ → Reader
  parse zero k left = next_byte left (λ b rest. refuse o Expression)
  parse (suc d) guard left = next_byte left (λ b rest. guard_by (parse d) rest (guard_code b))
  parse (suc d) term left = next_byte left (λ b rest. term_by (parse d) rest (term_code b))

  -- bytes of the length that are left over are not looked at; the last one is refused
  unfoldable pub leftover : {A : Type 0} → ℕ → Scan A
  leftover zero = refuse o Expression
  leftover (suc left) = ask o (λ b. leftover left)

  unfoldable pub finished : {k : Kind} → Part k → ℕ → Scan (Expr k)
  finished p zero = done p.expr
  finished p (suc left) = ask o (λ b. leftover left)

  unfoldable pub of_length : (k : Kind) → ℕ → Scan (Expr k)
  of_length k zero = refuse o Expression
  of_length k (suc left) = and_then (parse 16 k (suc left)) (λ p. finished p p.left)

  -- an expression behind its length, which is 1 to 255
  unfoldable pub sized : (k : Kind) → Scan (Expr k)
  sized k = ask o (of_length k)
