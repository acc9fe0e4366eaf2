-- What a sink has taken after the parts of an expression's text.
use Rattle.std.proofs.Common.{◌≡◌, ℕ, List, [], ◌∷◌, ℤ, codes, fold, refl, ap, ◌∙◌, w16, SFits, to_z, of_z}
use Rattle.sinks.specs.Text.{value_text}
use Rattle.sinks.proofs.Folds.{chain, value-sent}
use Rattle.expr.specs.Expr.{Kind, guard, term, Expr, negate, branch}
use Rattle.expr.specs.Text.{between, text_of}

module _ {S : Type 0} (f : S → ℕ → S) (s : S) (name : ℕ → List ℕ) where
  pub put_not : (a b c : S) (x : Expr guard) → a ≡ fold f s (codes "(!") → b ≡ fold f a (text_of name x) → c ≡ fold f b (codes ")") → c ≡ fold f s (text_of name (negate x))
  put_not a b c x ea eb ec =
      chain f s c (codes "(!" ∷ (text_of name x ∷ (codes ")" ∷ []))) (a, ea, (b, eb, (c, ec, refl)))

  pub put_between : {k : Kind} (sign : List ℕ) (a b c d e : S) (x y : Expr k) → a ≡ fold f s (codes "(") → b ≡ fold f a (text_of name x) → c ≡ fold f b sign → d ≡ fold f c (text_of name y) → e ≡ fold f d (codes ")") → e ≡ fold f s (between (text_of name x) sign (text_of name y))
  put_between sign a b c d e x y ea eb ec ed ee =
      chain f s e (codes "(" ∷ (text_of name x ∷ (sign ∷ (text_of name y ∷ (codes ")" ∷ []))))) (a, ea, (b, eb, (c, ec, (d, ed, (e, ee, refl)))))

  pub put_case_lem : (a b c d e h i : S) (x : Expr guard) (y z : Expr term) → a ≡ fold f s (codes "(case ") → b ≡ fold f a (text_of name x) → c ≡ fold f b (codes " : ") → d ≡ fold f c (text_of name y) → e ≡ fold f d (codes "; TRUE : ") → h ≡ fold f e (text_of name z) → i ≡ fold f h (codes "; esac)") → i ≡ fold f s (text_of name (branch x y z))
  put_case_lem a b c d e h i x y z ea eb ec ed ee eh ei =
      chain f s i (codes "(case " ∷ (text_of name x ∷ (codes " : " ∷ (text_of name y ∷ (codes "; TRUE : " ∷ (text_of name z ∷ (codes "; esac)" ∷ [])))))))
      (a, ea, (b, eb, (c, ec, (d, ed, (e, ee, (h, eh, (i, ei, refl)))))))

-- a literal that was read is sent as its bits and back
pub put_literal : {S : Type 0} (f : S → ℕ → S) (s t : S) (z y : ℤ) → SFits w16 z → t ≡ fold f s (value_text (to_z w16 (of_z w16 z))) → z ≡ y → t ≡ fold f s (value_text y)
put_literal f s t z y fits sent is = value-sent f s t z fits sent ∙ ap (λ v. fold f s (value_text v)) is
