-- An automaton's row: its role, and the marks as they are cut out.
use Rattle.std.proofs.Common.{◌≡◌, ℕ, ◌+◌, ◌-◌, Bool, List, [], ◌∷◌, map, length, get_or, take, drop, refl, ap, ◌∙◌, arith}
use Rattle.std.specs.List.{flat_map}
use Rattle.scan.specs.Stands.{Stands}
use Rattle.scan.proofs.Standing.{stands_part}
use Rattle.system.specs.System.{Automaton}
use Rattle.system.specs.declared.kinds.Role.{Role}
use Rattle.system.specs.declared.kinds.Role.TheVariants.{Plant, Specification}
use Rattle.system.specs.Encode.{role_byte, mark_byte, mark_bytes, head_bytes}
use Rattle.system.specs.Scan.{role_of}
use Rattle.system.proofs.HeadParts.{marks_long, head_parts}

role_byte_lem : (r : Role) → role_of (role_byte r) ≡ r
role_byte_lem Plant = refl
role_byte_lem Specification = refl

joined-marks : (ms : List Bool) → flat_map mark_bytes ms ≡ map mark_byte ms
joined-marks [] = refl
joined-marks (m ∷ ms) = ap (λ xs. mark_byte m ∷ xs) (joined-marks ms)

module _ (s : List ℕ) (at : ℕ) (A : Automaton) (h : Stands s at (head_bytes A)) where
  pub role_shown : role_of (get_or s at 0) ≡ A.role
  role_shown = ap role_of (head_parts s at A h).role ∙ role_byte_lem A.role

  pub marks_shown : take (at + 3 + get_or s (at + 1) 0 - (at + 3)) (drop (at + 3) s) ≡ map mark_byte A.marks
  marks_shown =
      let p = head_parts s at A h in
      let long : at + 3 + get_or s (at + 1) 0 - (at + 3) ≡ length (flat_map mark_bytes A.marks) = omega (arith, p.locations, marks_long A.marks) in
      stands_part s (at + 3) _ _ long p.marks ∙ joined-marks A.marks
