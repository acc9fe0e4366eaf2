-- The text form of an expression is the printing of its tree.
use Rattle.std.proofs.Common.{◌≡◌, ℕ, List, ◌++◌, pos, negsuc, codes, refl, ap, ◌∙◌}
use Rattle.expr.specs.Expr.{Kind, Expr, truth, negate, join, test, literal, variable, sum, branch}
use Rattle.expr.specs.Text.{text_of, between, joint_text, order_text, sign_text}
use Rattle.model_text.specs.declared.words.Name.{Name}
use Rattle.model_text.specs.Words.{name_text}
use Rattle.model_text.specs.Trees.{print}
use Rattle.translation.specs.Written.{written}

between-both : (a b c d sign : List ℕ) → a ≡ b → c ≡ d → between a sign c ≡ between b sign d
between-both a b c d sign e h = ap (λ z. between z sign c) e ∙ ap (λ z. between b sign z) h

module _ (f : ℕ → Name) where
  pub text_written : {k : Kind} (e : Expr k) → text_of (λ v. name_text (f v)) e ≡ print (written f e)
  text_written (truth b) = refl
  text_written (negate a) = ap (λ z. codes "(!" ++ (z ++ codes ")")) (text_written a)
  text_written (join j a b) = between-both _ _ _ _ (joint_text j) (text_written a) (text_written b)
  text_written (test o a b) = between-both _ _ _ _ (order_text o) (text_written a) (text_written b)
  text_written (literal (pos n)) = refl
  text_written (literal (negsuc n)) = refl
  text_written (variable v) = refl
  text_written (sum o a b) = between-both _ _ _ _ (sign_text o) (text_written a) (text_written b)
  text_written (branch g a b) =
      ap (λ z. codes "(case " ++ (z ++ (codes " : " ++ (text_of (λ v. name_text (f v)) a ++ (codes "; TRUE : " ++ (text_of (λ v. name_text (f v)) b ++ codes "; esac)")))))) (text_written g)
      ∙ ap (λ z. codes "(case " ++ (print (written f g) ++ (codes " : " ++ (z ++ (codes "; TRUE : " ++ (text_of (λ v. name_text (f v)) b ++ codes "; esac)")))))) (text_written a)
      ∙ ap (λ z. codes "(case " ++ (print (written f g) ++ (codes " : " ++ (print (written f a) ++ (codes "; TRUE : " ++ (z ++ codes "; esac)")))))) (text_written b)
