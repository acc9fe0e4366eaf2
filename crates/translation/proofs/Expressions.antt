-- The guards and terms of a system and of a rule keep what a text asks, under names that may be used.
use Rattle.std.proofs.Common.{ℕ, ◌*◌, ◌<◌, ◌⊎◌, length, ℤ, pos, negsuc, inl, inr, arith, lit≤, w16, SFits}
use Rattle.std.proofs.lemmas.List.{length-append}
use Rattle.expr.specs.Expr.{Expr, guard, term, truth, negate, join, test, literal, variable, sum, branch, bytes_of, depth, Leaves, Formed}
use Rattle.expr.specs.Expr as E
use Rattle.clash.specs.Rules.{Sumless, Plain}
use Rattle.model_text.specs.declared.words.Kind.{Kind}
use Rattle.model_text.specs.declared.words.Kind.TheVariants.{Guard, Term}
use Rattle.model_text.specs.declared.words.Name.{Name}
use Rattle.model_text.specs.Scopes.{Place, Definable, Undefined}
use Rattle.translation.specs.Written.{number, written}
use Rattle.translation.proofs.Fine.{Usable, Fine, fine_more, fine_name, fine_truth, fine_number, fine_negate, fine_join, fine_test, fine_sum, fine_choose, fine_last, fine_entry}

abbrev pub kinded : E.Kind → Kind
kinded guard = Guard
kinded term = Term

undefined_number : (v : ℤ) → Undefined (number v)
undefined_number (pos n) = tt
undefined_number (negsuc n) = tt

-- names that no definition introduces
undefined_written : (f : ℕ → Name) → ((v : ℕ) → Definable (f v) → ⊥) → {k : E.Kind} (e : Expr k) → Undefined (written f e)
undefined_written f h (truth b) = tt
undefined_written f h (negate a) = undefined_written f h a
undefined_written f h (join j a b) = (undefined_written f h a, undefined_written f h b)
undefined_written f h (test o a b) = (undefined_written f h a, undefined_written f h b)
undefined_written f h (literal v) = undefined_number v
undefined_written f h (variable v) = h v
undefined_written f h (sum o a b) = (undefined_written f h a, undefined_written f h b)
undefined_written f h (branch g a b) = (undefined_written f h g, undefined_written f h a, undefined_written f h b)

part : {A B C : Type 0} → (A → B) → A ⊎ C → B ⊎ C
part f (inl a) = inl (f a)
part f (inr c) = inr c

-- neither plus nor minus stands in the expression, or no name is of a definition
abbrev pub Apart : (ℕ → Name) → {k : E.Kind} → Expr k → Type 0
Apart f e = Sumless e ⊎ ((v : ℕ) → Definable (f v) → ⊥)

unsummed : (f : ℕ → Name) {k l : E.Kind} (a : Expr k) (b : Expr l) → ⊥ ⊎ ((v : ℕ) → Definable (f v) → ⊥) → Undefined (written f a) × Undefined (written f b)
unsummed f a b (inl h) = absurd h
unsummed f a b (inr h) = (undefined_written f h a, undefined_written f h b)

module _ {K : Name → Type 0} {p : Place} (f : ℕ → Name) (m : ℕ) (usable : (v : ℕ) → v < m → Usable K Term (f v)) where
  fine_parts : {k : E.Kind} (e : Expr k) → Leaves (λ v. v < m) (SFits w16) e → Apart f e → Fine K p (depth e) (30 * length (bytes_of e)) (kinded k) (written f e)
  fine_parts (truth b) h u = fine_more (fine_truth b) (lit≤ tt) (lit≤ tt)
  fine_parts (negate a) h u = fine_more (fine_negate (fine_parts a h u)) (omega arith) (omega arith)
  fine_parts (join j a b) h u =
      fine_more (fine_join j (fine_parts a h.0 (part (λ s. s.0) u)) (fine_parts b h.1 (part (λ s. s.1) u))) (omega arith) (simp length-append (omega arith))
  fine_parts (test o a b) h u =
      fine_more (fine_test o (fine_parts a h.0 (part (λ s. s.0) u)) (fine_parts b h.1 (part (λ s. s.1) u))) (omega arith) (simp length-append (omega arith))
  fine_parts (literal v) h u = fine_more (fine_number v h) (lit≤ tt) (lit≤ tt)
  fine_parts (variable v) h u = fine_more (fine_name (usable v h)) (lit≤ tt) (lit≤ tt)
  fine_parts (sum o a b) h u =
      fine_more (fine_sum o (unsummed f a b u) (fine_parts a h.0 (part absurd u)) (fine_parts b h.1 (part absurd u))) (omega arith) (simp length-append (omega arith))
  fine_parts (branch g a b) h u =
      fine_more
      (fine_choose (fine_entry (fine_parts g h.0 (part (λ s. s.0) u)) (fine_parts a h.1 (part (λ s. s.1) u)) (fine_last (fine_parts b h.2 (part (λ s. s.2) u)))))
      (omega arith)
      (simp length-append (omega arith))

  pub fine_written : {k : E.Kind} (e : Expr k) → Formed m e → Apart f e → Fine K p 16 7650 (kinded k) (written f e)
  fine_written e h u = fine_more (fine_parts e h.leaves u) h.shallow (omega (arith, h.short))

  pub fine_plain : {k : E.Kind} (e : Expr k) → Plain m e → Fine K p 16 7650 (kinded k) (written f e)
  fine_plain e h = fine_written e h.formed (inl h.sumless)
