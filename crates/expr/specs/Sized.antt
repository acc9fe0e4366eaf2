-- An expression in a file: its length, and then its bytes.
use Rattle.std.specs.Prelude.{ℕ, List, ◌∷◌, length}
use Rattle.expr.specs.Expr.{Kind, Expr, bytes_of}

abbrev pub sized_bytes : {k : Kind} → Expr k → List ℕ
sized_bytes e = length (bytes_of e) ∷ bytes_of e
