-- Expressions whose byte code stands in a list of bytes.
use Rattle.std.specs.Prelude.{◌≡◌, ℕ, ◌+◌, ◌<◌, ◌≤◌, List, length, FitsSigned}
use Rattle.std.specs.Int.{w16}
use Rattle.scan.specs.Stands.{Stands}
use Rattle.expr.specs.Expr.{Kind, Expr, bytes_of, Leaves}

pub record Placed {k : Kind} (s : List ℕ) (at : ℕ) (e : Expr k) : Type 0 where
  pub stands : Stands s at (bytes_of e)
  pub leaves : Leaves (λ v. v < 256) (FitsSigned w16) e

-- some expression of the kind stands at the place
pub record Standing (k : Kind) (s : List ℕ) (at : ℕ) : Type 0 where
  pub some : ∥ ((e : Expr k) × Placed s at e) ∥₁
  pub within : at < length s

-- P holds of each expression of the kind that stands at the place, and it ends in front of the other
pub record Spans (k : Kind) (s : List ℕ) (at end : ℕ) (P : Expr k → Type 0) : Type 0 where
  pub holds : (e : Expr k) → Placed s at e → P e
  pub ends : (e : Expr k) → Placed s at e → end ≡ at + length (bytes_of e)
  pub past : at < end
  pub within : end ≤ length s
