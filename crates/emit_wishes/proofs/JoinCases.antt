-- The joins of the first automaton, and of each after it.
use Rattle.std.proofs.Common.{◌≡◌, ℕ, zero, suc, ◌-◌, ◌<◌, List, ◌++◌, refl, ap, arith}
use Rattle.clash.specs.Rules.{ClashRule}
use Rattle.model_text.specs.declared.words.Double.TheVariants.{WishStatus, WishValue, JoinedStatus, JoinedValue}
use Rattle.model_text.specs.declared.words.Name.TheVariants as N
use Rattle.model_text.specs.Trees as T
use Rattle.translation.specs.Written.{name, written, join_name}
use Rattle.emit.specs.Texts.{definition_text, join_text}

module _ (R : ClashRule) (i : ℕ) where
  abbrev lines : ℕ → T.Tree T.expr → T.Tree T.expr → List ℕ
  lines k status value = definition_text (N.Two JoinedStatus i k) status ++ definition_text (N.Two JoinedValue i k) value

  pub join_first : (k : ℕ) → k ≡ 0 → lines k (name (N.Two WishStatus i 0)) (name (N.Two WishValue i 0)) ≡ join_text R i k
  join_first zero h = refl
  join_first (suc k) h = absurd (omega arith)

  pub join_later : (k : ℕ) → 0 < k → lines k (written (join_name i (k - 1)) R.joined_status) (written (join_name i (k - 1)) R.joined_value) ≡ join_text R i k
  join_later zero h = absurd (omega arith)
  join_later (suc k) h =
      let e : suc k - 1 ≡ k = omega arith in
      ap (λ m. lines (suc k) (written (join_name i m) R.joined_status) (written (join_name i m) R.joined_value)) e
