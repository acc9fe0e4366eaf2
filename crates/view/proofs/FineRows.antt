-- The rows of a well-formed system have well-formed expressions.
use Rattle.std.proofs.Common.{ℕ, zero, suc, ◌<◌, ◌≤◌, List, [], ◌∷◌, ◌++◌, map, length, get_or, ℤ, arith}
use Rattle.expr.specs.Expr.{Kind, Expr, truth, negate, join, test, literal, variable, sum, branch, Leaves, Formed}
use Rattle.system.specs.System.{Transition, Automaton, System, rows_from, rows}
use Rattle.system.specs.Formed.{All, UpdateFormed, TransitionFormed, AutomatonFormed, WellFormed}
use Rattle.view.specs.Walk.{UpdateFine, RowFine}

-- more variables
leaves_more : (n m : ℕ) → n ≤ m → (Q : ℤ → Type 0) → {k : Kind} (e : Expr k) → Leaves (λ v. v < n) Q e → Leaves (λ v. v < m) Q e
leaves_more n m le Q (truth b) h = tt
leaves_more n m le Q (negate a) h = leaves_more n m le Q a h
leaves_more n m le Q (join j a b) h = (leaves_more n m le Q a h.0, leaves_more n m le Q b h.1)
leaves_more n m le Q (test o a b) h = (leaves_more n m le Q a h.0, leaves_more n m le Q b h.1)
leaves_more n m le Q (literal v) h = h
leaves_more n m le Q (variable v) h = omega arith
leaves_more n m le Q (sum o a b) h = (leaves_more n m le Q a h.0, leaves_more n m le Q b h.1)
leaves_more n m le Q (branch g a b) h = (leaves_more n m le Q g h.0, leaves_more n m le Q a h.1, leaves_more n m le Q b h.2)

formed_more : (n m : ℕ) → n ≤ m → {k : Kind} (e : Expr k) → Formed n e → Formed m e
formed_more n m le e h = record { short = h.short; shallow = h.shallow; leaves = leaves_more n m le _ e h.leaves }

-- what holds of each
module _ {A : Type 0} (P : A → Type 0) where
  pub all_at : (xs : List A) → All P xs → (i : ℕ) (d : A) → i < length xs → P (get_or xs i d)
  all_at [] h i d under = absurd (let z : ⊥ = omega arith in z)
  all_at (x ∷ xs) h zero d under = h.0
  all_at (x ∷ xs) h (suc i) d under = all_at xs h.1 i d (omega arith)

  all_append : (xs ys : List A) → All P xs → All P ys → All P (xs ++ ys)
  all_append [] ys h g = g
  all_append (x ∷ xs) ys h g = (h.0, all_append xs ys h.1 g)

  all_map : {B : Type 0} (f : B → A) (Q : B → Type 0) → ((y : B) → Q y → P (f y)) → (ys : List B) → All Q ys → All P (map f ys)
  all_map f Q to [] h = tt
  all_map f Q to (y ∷ ys) h = (to y h.0, all_map f Q to ys h.1)

  all_like : (Q : A → Type 0) → ((x : A) → P x → Q x) → (xs : List A) → All P xs → All Q xs
  all_like Q to [] h = tt
  all_like Q to (x ∷ xs) h = (to x h.0, all_like Q to xs h.1)

module _ (n m : ℕ) (few : m ≤ 256) where
  transition_fine : (k : ℕ) (A : Automaton) (t : Transition) → TransitionFormed n m A t → RowFine (record { owner = k; transition = t })
  transition_fine k A t h = record {
    guard = formed_more m 256 few t.guard h.guard;
    few_updates = h.few_updates;
    updates = all_like (UpdateFormed m) UpdateFine (λ u g. record { value = formed_more m 256 few u.value g.value }) t.updates h.updates;
  }

  automata_fine : (k : ℕ) (As : List Automaton) → All (AutomatonFormed n m) As → All RowFine (rows_from k As)
  automata_fine k [] h = tt
  automata_fine k (A ∷ As) h =
      all_append RowFine (map (λ t. record { owner = k; transition = t }) A.transitions) (rows_from (suc k) As)
      (all_map RowFine (λ t. record { owner = k; transition = t }) (TransitionFormed n m A) (transition_fine k A) A.transitions h.0.transitions) (automata_fine (suc k) As h.1)

pub rows-fine : (S : System) → WellFormed S → All RowFine (rows S)
rows-fine S h = automata_fine (length S.kinds) (length S.variables) (omega (arith, h.few_variables)) 0 S.automata h.automata
