-- The parts of an update, from where it begins.
use Rattle.std.proofs.Common.{◌≡◌, ℕ, ◌+◌, ◌-◌, ◌≤◌, List, [], ◌∷◌, length, get_or, take, drop, pos, sym, refl, subst, arith, lit<}
use mathlib.Core.Logic.{∥∥₁_elim, ∥∥₁_map}
use native.Mathlib.Bridge.{le_prop}
use Rattle.scan.specs.Stands.{Stands}
use Rattle.scan.proofs.Standing.{stands_head, stands_within, stands_part}
use Rattle.expr.specs.Expr.{literal, bytes_of}
use Rattle.expr.specs.Coded.{Coded}
use Rattle.system.specs.System.{Update}
use Rattle.system.specs.Encode.{update_bytes}
use Rattle.view.specs.Walk.{UpdateAt, UpdatesAt, UpdateStanding}
use Rattle.view.proofs.Many.{front_left}

-- where each part stands
pub record UpdateParts (s : List ℕ) (at : ℕ) (u : Update) : Type 0 where
  pub variable : get_or s at 0 ≡ u.variable
  pub size : get_or s (at + 1) 0 ≡ length (bytes_of u.value)
  pub value : Stands s (at + 2) (bytes_of u.value)
  pub within : at + 2 + length (bytes_of u.value) ≤ length s

pub update-parts : (s : List ℕ) (at : ℕ) (u : Update) → UpdateAt s at u → UpdateParts s at u
update-parts s at u h =
    let p = stands_head s at _ _ h.stands in
    let q = stands_head s (at + 1) _ _ p.2 in
    let two : at + 1 + 1 ≡ at + 2 = omega arith in
    let code : Stands s (at + 2) (bytes_of u.value) = subst (λ i. Stands s i (bytes_of u.value)) two q.2 in
    record { variable = p.1; size = q.1; value = code; within = stands_within s (at + 2) _ (omega (arith, q.0)) code }

-- the term as it is cut out
pub value-coded : (s : List ℕ) (at : ℕ) (u : Update) → UpdateAt s at u → Coded (take (at + 2 + get_or s (at + 1) 0 - (at + 2)) (drop (at + 2) s)) u.value
value-coded s at u h =
    let p = update-parts s at u h in
    let long : at + 2 + get_or s (at + 1) 0 - (at + 2) ≡ length (bytes_of u.value) = omega (arith, p.size) in
    record { bytes = sym (stands_part s (at + 2) _ _ long p.value); formed = h.fine.value }

pub update-ends : (s : List ℕ) (at : ℕ) (u : Update) → UpdateAt s at u → at + 2 + get_or s (at + 1) 0 ≡ at + length (update_bytes u)
update-ends s at u h = omega (arith, (update-parts s at u h).size)

pub update-standing : (s : List ℕ) (at left : ℕ) → ∥ ((us : List Update) × UpdatesAt s at left us) ∥₁ → (left ≡ 0 → ⊥) → UpdateStanding s at
update-standing s at left h some =
    let here : ((us : List Update) × UpdatesAt s at left us) → (u : Update) × UpdateAt s at u = λ w. let f = front_left w.0 w.1 some in (f.head, f.first) in
    record {
      some = ∥∥₁_map h here;
      size = ∥∥₁_elim h le_prop (λ w. let p = update-parts s at (here w).0 (here w).1 in omega arith);
      end = ∥∥₁_elim h le_prop (λ w. let p = update-parts s at (here w).0 (here w).1 in omega arith);
    }

-- the term 0
pub zero_coded : Coded (0x10 ∷ (0 ∷ (0 ∷ []))) (literal (pos 0))
zero_coded = record { bytes = refl; formed = record { short = omega arith; shallow = omega arith; leaves = record { sfits = lit< tt } } }
