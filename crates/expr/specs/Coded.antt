-- Bytes that are the code of a well-formed expression.
use Rattle.std.specs.Prelude.{◌≡◌, ℕ, List}
use Rattle.expr.specs.Expr.{Kind, Expr, bytes_of, Formed}

-- a variable's number is any byte
pub record Coded {k : Kind} (s : List ℕ) (e : Expr k) : Type 0 where
  pub bytes : bytes_of e ≡ s
  pub formed : Formed 256 e
