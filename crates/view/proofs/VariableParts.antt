-- The values of a variable, from where it begins.
use Rattle.std.proofs.Common.{◌≡◌, ℕ, ◌+◌, ◌*◌, ◌/◌, ◌%◌, List, [], ◌∷◌, ◌++◌, get_or, ℤ, refl, ap, ◌∙◌, subst, arith, w16, SFits, to_z, of_z}
use Rattle.std.proofs.lemmas.Int.{to_z-of_z}
use Rattle.scan.specs.Stands.{Stands}
use Rattle.scan.proofs.Standing.{stands_head, stands_split}
use Rattle.expr.specs.Expr.{value_bytes}
use Rattle.system.specs.System.{Variable}
use Rattle.system.specs.Encode.{variable_bytes}

pub value-shown : (s : List ℕ) (at : ℕ) (v : ℤ) → SFits w16 v → Stands s at (value_bytes v) → to_z w16 (get_or s at 0 * 256 + get_or s (at + 1) 0) ≡ v
value-shown s at v fits h =
    let n = of_z w16 v in
    let high = stands_head s at (n / 256) (n % 256 ∷ []) h in
    let low = stands_head s (at + 1) (n % 256) [] high.2 in
    let whole : n / 256 * 256 + n % 256 ≡ n = omega arith in
    rw (high.1, low.1, whole) (to_z-of_z w16 v fits)

-- a value that is passed on
pub value-passed : (x v : ℤ) → SFits w16 v → x ≡ v → to_z w16 (of_z w16 x) ≡ v
value-passed x v fits e = ap (λ z. to_z w16 (of_z w16 z)) e ∙ to_z-of_z w16 v fits

-- where each value stands
pub record VariableParts (s : List ℕ) (at : ℕ) (v : Variable) : Type 0 where
  pub low : Stands s at (value_bytes v.low)
  pub high : Stands s (at + 2) (value_bytes v.high)
  pub start : Stands s (at + 4) (value_bytes v.start)
  pub marked_low : Stands s (at + 6) (value_bytes v.marked_low)
  pub marked_high : Stands s (at + 8) (value_bytes v.marked_high)

behind : (s : List ℕ) (at : ℕ) (v : ℤ) (xs : List ℕ) (then : ℕ) → at + 2 ≡ then → Stands s at (value_bytes v ++ xs) → Stands s at (value_bytes v) × Stands s then xs
behind s at v xs then e h =
    let p = stands_split s at (value_bytes v) xs h in
    (p.0, subst (λ i. Stands s i xs) e p.1)

pub variable-parts : (s : List ℕ) (at : ℕ) (v : Variable) → Stands s at (variable_bytes v) → VariableParts s at v
variable-parts s at v h =
    let a = behind s at v.low (value_bytes v.high ++ (value_bytes v.start ++ (value_bytes v.marked_low ++ value_bytes v.marked_high))) (at + 2) refl h in
    let b = behind s (at + 2) v.high (value_bytes v.start ++ (value_bytes v.marked_low ++ value_bytes v.marked_high)) (at + 4) (omega arith) a.1 in
    let c = behind s (at + 4) v.start (value_bytes v.marked_low ++ value_bytes v.marked_high) (at + 6) (omega arith) b.1 in
    let d = behind s (at + 6) v.marked_low (value_bytes v.marked_high) (at + 8) (omega arith) c.1 in
    record { low = a.0; high = b.0; start = c.0; marked_low = d.0; marked_high = d.1 }

pub same_variable : (v : Variable) (a b c d e : ℤ) → a ≡ v.low → b ≡ v.high → c ≡ v.start → d ≡ v.marked_low → e ≡ v.marked_high → record { low = a; high = b; start = c; marked_low = d; marked_high = e } ≡ v
same_variable v a b c d e p q r s t = rw (p, q, r, s, t)
