-- What an expression is worth, where each name has a whole number; the name of a guard is true if its number is 1.
use Rattle.std.specs.Prelude.{ℕ, Bool, false, cond, not, ℤ, pos, neg_ℤ}
use Rattle.expr.specs.Expr.{joined, tested, summed}
use Rattle.expr.specs.declared.code.Order.TheVariants.{Eq}
use Rattle.model_text.specs.declared.words.Kind.{Kind}
use Rattle.model_text.specs.declared.words.Kind.TheVariants.{Guard, Term}
use Rattle.model_text.specs.declared.words.Operator.TheVariants.{Join, Test, Sum}
use Rattle.model_text.specs.declared.words.Single.{Single}
use Rattle.model_text.specs.declared.words.Name.{Name}
use Rattle.model_text.specs.declared.words.Word.{Word}
use Rattle.model_text.specs.declared.words.Word.TheVariants as W
use Rattle.model_text.specs.Trees.{Sort, Tree, word, next, minus, negate, binary, choose, last, entry}

-- a number for each name, and for each location and variable after the step
pub record Valuation : Type 0 where
  pub now : Name → ℤ
  pub after : Single → ℕ → ℤ

abbrev pub Worth : Kind → Type 0
Worth Guard = Bool
Worth Term = ℤ

abbrev pub name_worth : (k : Kind) → ℤ → Worth k
name_worth Guard z = tested Eq z (pos 1)
name_worth Term z = z

-- what is of the other kind is worth false, or 0
abbrev pub word_worth : Valuation → (k : Kind) → Word → Worth k
word_worth ρ Guard (W.Truth b) = b
word_worth ρ Term (W.Truth b) = pos 0
word_worth ρ Guard (W.Number n) = false
word_worth ρ Term (W.Number n) = pos n
word_worth ρ k (W.Name x) = name_worth k (ρ.now x)

abbrev pub eval : Valuation → (k : Kind) → {x : Sort} → Tree x → Worth k
eval ρ k (word w) = word_worth ρ k w
eval ρ Guard (next x n) = false
eval ρ Term (next x n) = ρ.after x n
eval ρ Guard (minus n) = false
eval ρ Term (minus n) = neg_ℤ (pos n)
eval ρ Guard (negate a) = not (eval ρ Guard a)
eval ρ Term (negate a) = pos 0
eval ρ Guard (binary (Join j) a b) = joined j (eval ρ Guard a) (eval ρ Guard b)
eval ρ Guard (binary (Test o) a b) = tested o (eval ρ Term a) (eval ρ Term b)
eval ρ Guard (binary (Sum o) a b) = false
eval ρ Term (binary (Join j) a b) = pos 0
eval ρ Term (binary (Test o) a b) = pos 0
eval ρ Term (binary (Sum o) a b) = summed o (eval ρ Term a) (eval ρ Term b)
eval ρ Guard (choose es) = false
eval ρ Term (choose es) = eval ρ Term es
eval ρ Guard (last t) = false
eval ρ Term (last t) = eval ρ Term t
eval ρ Guard (entry g t es) = false
eval ρ Term (entry g t es) = cond (eval ρ Guard g) (eval ρ Term t) (eval ρ Term es)
