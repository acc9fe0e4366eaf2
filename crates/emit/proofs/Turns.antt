-- The turns of a loop over an automaton's rows.
use Rattle.std.proofs.Common.{◌≡◌, ℕ, ◌+◌, ◌≤◌, List, [], ◌∷◌, length, None, Some, fold, sym, refl, ap, ◌∙◌, subst, arith}
use Rattle.std.proofs.lemmas.List.{length-map}
use Rattle.sinks.specs.Text.{each}
use Rattle.sinks.proofs.Folds.{folded_append}
use Rattle.system.specs.System.{Transition, Row}
use Rattle.view.specs.declared.parts.Transition.{Transition as Read}
use Rattle.view.specs.declared.rows.Rows.{Rows}
use Rattle.view.specs.Shown.{RowsOf, TransitionShows, NextRow}
use Rattle.emit.specs.Own.{own_rows}

-- the first of an automaton's rows
pub record OwnFront (k : ℕ) (ts : List Transition) (r : Row) (rs : List Row) : Type 0 where
  pub head : Transition
  pub tail : List Transition
  pub are : ts ≡ head ∷ tail
  pub row : r ≡ record { owner = k; transition = head }
  pub rows : rs ≡ own_rows k tail

own_front : (k : ℕ) (ts : List Transition) (r : Row) (rs : List Row) → own_rows k ts ≡ r ∷ rs → OwnFront k ts r rs
own_front k [] r rs e = absurd (let z : ◌≡◌ {A = ℕ} 0 1 = cc in omega arith)
own_front k (t ∷ ts) r rs e = record { head = t; tail = ts; are = refl; row = cc; rows = cc }

-- the transitions that are left, from number j on, take the sink to where all do
pub record Left {S : Type 0} (f : S → ℕ → S) (F : ℕ → Transition → List ℕ) (all k j : ℕ) (rest : Rows) (s end : S) : Type 0 where
  pub ts : List Transition
  pub rows : RowsOf rest (own_rows k ts)
  pub count : j + length ts ≡ all
  pub to : fold f s (each F j ts) ≡ end

module _ {S : Type 0} (f : S → ℕ → S) (F : ℕ → Transition → List ℕ) (all k j : ℕ) (rest : Rows) (s end : S) (l : Left f F all k j rest s end) where
  pub left_turn : (x : Read) (others : Rows) (t : S) → NextRow rest (Some x) others → ((r : Row) → TransitionShows x r → t ≡ fold f s (F j r.transition)) → Left f F all k (j + 1) others t end
  left_turn x others t next sent =
      let n = next _ l.rows in
      let o = own_front k l.ts n.head n.tail n.are in
      let here : t ≡ fold f s (F j o.head) = sent n.head n.first ∙ ap (λ r. fold f s (F j r.transition)) o.row in
      let long : length l.ts ≡ length (o.head ∷ o.tail) = ap length o.are in
      record {
        ts = o.tail;
        rows = subst (RowsOf others) o.rows n.rest;
        count = omega (arith, l.count);
        to = ap (λ u. fold f u (each F (j + 1) o.tail)) here ∙ sym (folded_append f s (F j o.head) (each F (j + 1) o.tail)) ∙ sym (ap (λ us. fold f s (each F j us)) o.are) ∙ l.to;
      }

  pub left_none : length l.ts ≡ 0 → s ≡ end
  left_none none = ends l.ts none l.to
    where
      ends : (us : List Transition) → length us ≡ 0 → fold f s (each F j us) ≡ end → s ≡ end
      ends [] e h = h
      ends (t ∷ us) e h = absurd (let z : ⊥ = omega arith in z)

-- none is left at the end of the rows, and past the last number
module _ {S : Type 0} (f : S → ℕ → S) (F : ℕ → Transition → List ℕ) (all k j : ℕ) (rest : Rows) (s end : S) (l : Left f F all k j rest s end) where
  pub left_past : all ≤ j → s ≡ end
  left_past past = left_none f F all k j rest s end l (omega (arith, l.count))

  pub left_ended : (others : Rows) → NextRow rest None others → s ≡ end
  left_ended others next = left_none f F all k j rest s end l (sym (length-map l.ts (λ t. record { owner = k; transition = t })) ∙ ap length (next _ l.rows))
