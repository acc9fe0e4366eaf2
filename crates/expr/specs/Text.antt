-- The text form of guards and terms, under names for their variables.
use Rattle.std.specs.Prelude.{ℕ, Bool, true, false, List, ◌++◌, codes}
use Rattle.sinks.specs.Text.{value_text}
use Rattle.expr.specs.declared.code.Joint.{Joint}
use Rattle.expr.specs.declared.code.Joint.TheVariants.{And, Or}
use Rattle.expr.specs.declared.code.Order.{Order}
use Rattle.expr.specs.declared.code.Order.TheVariants.{Eq, Ne, Lt, Le}
use Rattle.expr.specs.declared.code.Sign.{Sign}
use Rattle.expr.specs.declared.code.Sign.TheVariants.{Plus, Minus}
use Rattle.expr.specs.Expr.{Kind, Expr, truth, negate, join, test, literal, variable, sum, branch}

abbrev pub truth_text : Bool → List ℕ
truth_text true = codes "TRUE"
truth_text false = codes "FALSE"

abbrev pub joint_text : Joint → List ℕ
joint_text And = codes " & "
joint_text Or = codes " | "

abbrev pub order_text : Order → List ℕ
order_text Eq = codes " = "
order_text Ne = codes " != "
order_text Lt = codes " < "
order_text Le = codes " <= "

abbrev pub sign_text : Sign → List ℕ
sign_text Plus = codes " + "
sign_text Minus = codes " - "

-- in parentheses, a sign between two parts
abbrev pub between : List ℕ → List ℕ → List ℕ → List ℕ
between a sign b = codes "(" ++ (a ++ (sign ++ (b ++ codes ")")))

abbrev pub text_of : (ℕ → List ℕ) → {k : Kind} → Expr k → List ℕ
text_of name (truth b) = truth_text b
text_of name (negate a) = codes "(!" ++ (text_of name a ++ codes ")")
text_of name (join j a b) = between (text_of name a) (joint_text j) (text_of name b)
text_of name (test o a b) = between (text_of name a) (order_text o) (text_of name b)
text_of name (literal v) = value_text v
text_of name (variable v) = name v
text_of name (sum o a b) = between (text_of name a) (sign_text o) (text_of name b)
text_of name (branch g a b) = codes "(case " ++ (text_of name g ++ (codes " : " ++ (text_of name a ++ (codes "; TRUE : " ++ (text_of name b ++ codes "; esac)")))))
