-- What an automaton wishes of a variable.
use Rattle.std.specs.Prelude.{◌≡◌, ℕ, List}
use Rattle.std.proofs.Math.Option.{Option, some}
use Rattle.expr.specs.Expr.{Expr, term}
use Rattle.expr.specs.Coded.{Coded}
use Rattle.model_text.specs.Trees as T
use Rattle.translation.specs.Written.{count, written, variable_name}
use Rattle.emit_wishes.specs.declared.entries.WishPart.{WishPart}
use Rattle.emit_wishes.specs.declared.entries.WishPart.TheVariants.{Status, Value}

-- the code of a term that was found is that of the one that is sought
pub record Found (code : List ℕ) (e : Option (Expr term)) : Type 0 where
  pub value : Expr term
  pub is : e ≡ some value
  pub coded : Coded code value

-- what is wished where an update has this term
abbrev pub wished : WishPart → Expr term → T.Tree T.expr
wished Status e = count 1
wished Value e = written variable_name e
