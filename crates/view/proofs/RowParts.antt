-- The parts of a transition's row, from where it begins.
use Rattle.std.proofs.Common.{◌≡◌, ℕ, ◌+◌, ◌-◌, ◌<◌, true, List, [], ◌∷◌, length, get_or, take, drop, sym, refl, subst, arith, length-append}
use mathlib.Core.Logic.{∥∥₁_elim, ∥∥₁_map}
use native.Mathlib.Bridge.{le_prop}
use Rattle.std.specs.List.{flat_map}
use Rattle.scan.specs.Stands.{Stands}
use Rattle.scan.proofs.Standing.{stands_none, stands_head, stands_split, stands_part}
use Rattle.expr.specs.Expr.{truth, bytes_of}
use Rattle.expr.specs.Coded.{Coded}
use Rattle.system.specs.System.{Row}
use Rattle.system.specs.Encode.{update_bytes, row_bytes}
use Rattle.view.specs.Walk.{UpdatesAt, RowAt, RowsAt, RowStanding}
use Rattle.view.proofs.Many.{front_left}

-- where each part stands
pub record RowParts (s : List ℕ) (at : ℕ) (r : Row) : Type 0 where
  pub owner : get_or s at 0 ≡ r.owner
  pub from : get_or s (at + 1) 0 ≡ r.transition.from
  pub event : get_or s (at + 2) 0 ≡ r.transition.event
  pub to : get_or s (at + 3) 0 ≡ r.transition.to
  pub size : get_or s (at + 4) 0 ≡ length (bytes_of r.transition.guard)
  pub guard : Stands s (at + 5) (bytes_of r.transition.guard)
  pub within : at + 5 + length (bytes_of r.transition.guard) < length s
  pub count : get_or s (at + 5 + length (bytes_of r.transition.guard)) 0 ≡ length r.transition.updates
  pub updates : Stands s (at + 5 + length (bytes_of r.transition.guard) + 1) (flat_map update_bytes r.transition.updates)

-- a byte, and what stands behind it
next : (s : List ℕ) (at x : ℕ) (xs : List ℕ) (here then : ℕ) → Stands s at (x ∷ xs) → at ≡ here → at + 1 ≡ then → (here < length s) × (get_or s here 0 ≡ x) × Stands s then xs
next s at x xs here then h e f =
    let p = stands_head s at x xs h in
    (omega (arith, p.0), subst (λ i. get_or s i 0 ≡ x) e p.1, subst (λ i. Stands s i xs) f p.2)

pub row_parts : (s : List ℕ) (at : ℕ) (r : Row) → RowAt s at r → RowParts s at r
row_parts s at r h =
    let g = bytes_of r.transition.guard in
    let a = next s at _ _ at (at + 1) h.stands refl refl in
    let b = next s (at + 1) _ _ (at + 1) (at + 2) a.2 refl (omega arith) in
    let c = next s (at + 2) _ _ (at + 2) (at + 3) b.2 refl (omega arith) in
    let d = next s (at + 3) _ _ (at + 3) (at + 4) c.2 refl (omega arith) in
    let e = next s (at + 4) _ _ (at + 4) (at + 5) d.2 refl (omega arith) in
    let f = stands_split s (at + 5) g (length r.transition.updates ∷ flat_map update_bytes r.transition.updates) e.2 in
    let u = stands_head s (at + 5 + length g) _ _ f.1 in
    record { owner = a.1; from = b.1; event = c.1; to = d.1; size = e.1; guard = f.0; within = u.0; count = u.1; updates = u.2 }

-- the guard as it is cut out
pub guard_coded : (s : List ℕ) (at : ℕ) (r : Row) → RowAt s at r → Coded (take (at + 5 + get_or s (at + 4) 0 - (at + 5)) (drop (at + 5) s)) r.transition.guard
guard_coded s at r h =
    let p = row_parts s at r h in
    let long : at + 5 + get_or s (at + 4) 0 - (at + 5) ≡ length (bytes_of r.transition.guard) = omega (arith, p.size) in
    record { bytes = sym (stands_part s (at + 5) _ _ long p.guard); formed = h.fine.guard }

pub row_updates : (s : List ℕ) (at : ℕ) (r : Row) → RowAt s at r → UpdatesAt s (at + 5 + get_or s (at + 4) 0 + 1) (get_or s (at + 5 + get_or s (at + 4) 0) 0) r.transition.updates
row_updates s at r h =
    let p = row_parts s at r h in
    rw p.size (record { stands = p.updates; count = sym p.count; fine = h.fine.updates })

pub row_ends : (s : List ℕ) (at : ℕ) (r : Row) → RowAt s at r → at + 5 + get_or s (at + 4) 0 + 1 + length (flat_map update_bytes r.transition.updates) ≡ at + length (row_bytes r)
row_ends s at r h =
    omega (arith, (row_parts s at r h).size, length-append (bytes_of r.transition.guard) (length r.transition.updates ∷ flat_map update_bytes r.transition.updates))

pub row_standing : (s : List ℕ) (at left : ℕ) → ∥ ((rs : List Row) × RowsAt s at left rs) ∥₁ → (left ≡ 0 → ⊥) → RowStanding s at
row_standing s at left h some =
    let here : ((rs : List Row) × RowsAt s at left rs) → (r : Row) × RowAt s at r = λ w. let f = front_left w.0 w.1 some in (f.head, f.first) in
    record {
      some = ∥∥₁_map h here;
      size = ∥∥₁_elim h le_prop (λ w. let p = row_parts s at (here w).0 (here w).1 in omega arith);
      guard = ∥∥₁_elim h le_prop (λ w. let p = row_parts s at (here w).0 (here w).1 in omega arith);
    }

-- the guard `TRUE`, and no updates
pub true_coded : Coded (0x01 ∷ []) (truth true)
true_coded = record { bytes = refl; formed = record { short = omega arith; shallow = omega arith; leaves = tt } }

pub no_updates : UpdatesAt [] 0 0 []
no_updates = record { stands = stands_none [] 0; count = refl; fine = tt }
