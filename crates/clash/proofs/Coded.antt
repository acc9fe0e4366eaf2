-- The bytes of a rule's expression are the code of a well-formed expression.
use Rattle.std.proofs.Common.{◌≡◌, ℕ, ◌<◌, ◌≤◌, List, sym, arith, lit≤, w16, SFits}
use Rattle.expr.specs.Coded.{Coded}
use Rattle.expr.specs.Expr.{Kind, Expr, truth, negate, join, test, literal, variable, sum, branch, bytes_of, Leaves}
use Rattle.clash.specs.Rules.{Plain}

module _ (n : ℕ) (few : n ≤ 256) where
  wider : {k : Kind} (e : Expr k) → Leaves (λ v. v < n) (SFits w16) e → Leaves (λ v. v < 256) (SFits w16) e
  wider (truth b) h = tt
  wider (negate a) h = wider a h
  wider (join j a b) h = (wider a h.0, wider b h.1)
  wider (test o a b) h = (wider a h.0, wider b h.1)
  wider (literal v) h = h
  wider (variable v) h = omega arith
  wider (sum o a b) h = (wider a h.0, wider b h.1)
  wider (branch g a b) h = (wider g h.0, wider a h.1, wider b h.2)

  coded : {k : Kind} {s : List ℕ} {e : Expr k} → Plain n e → s ≡ bytes_of e → Coded s e
  coded {e = e} p is = record {
    bytes = sym is;
    formed = record {
      short = p.formed.short;
      shallow = p.formed.shallow;
      leaves = wider e p.formed.leaves;
    };
  }

pub of_pair_lem : {k : Kind} {s : List ℕ} {e : Expr k} → Plain 4 e → s ≡ bytes_of e → Coded s e
of_pair_lem p is = coded 4 (lit≤ tt) p is

pub of_wish_lem : {k : Kind} {s : List ℕ} {e : Expr k} → Plain 3 e → s ≡ bytes_of e → Coded s e
of_wish_lem p is = coded 3 (lit≤ tt) p is

pub some : {k : Kind} {s : List ℕ} {e : Expr k} → Coded s e → ∥ ((d : Expr k) × Coded s d) ∥₁
some {e = e} h = ∣ (e, h) ∣₁
