-- The parts of an automaton's row, from where it begins.
use Rattle.std.proofs.Common.{◌≡◌, ℕ, suc, ◌+◌, ◌-◌, ◌≤◌, Bool, eqb, ◌||◌, List, [], ◌∷◌, length, get_or, take, drop, refl, ap, ◌∙◌, subst, arith}
use Rattle.std.specs.List.{flat_map, list_any}
use Rattle.std.proofs.lemmas.Bool.Decides.{nat_tests}
use Rattle.scan.specs.Stands.{Stands}
use Rattle.scan.proofs.Standing.{stands_head, stands_split, stands_within, stands_part}
use Rattle.system.specs.System.{Automaton}
use Rattle.system.specs.Encode.{role_byte, mark_bytes, event_bytes, head_bytes}
use Rattle.system.specs.Heads.{HeadFits}
use Rattle.system.specs.Scan.{is_in}

pub joined-events : (es : List ℕ) → flat_map event_bytes es ≡ es
joined-events [] = refl
joined-events (e ∷ es) = ap (λ xs. e ∷ xs) (joined-events es)

pub marks_long : (ms : List Bool) → length (flat_map mark_bytes ms) ≡ length ms
marks_long [] = refl
marks_long (m ∷ ms) = ap suc (marks_long ms)

-- where each part stands
pub record HeadParts (s : List ℕ) (at : ℕ) (A : Automaton) : Type 0 where
  pub role : get_or s at 0 ≡ role_byte A.role
  pub locations : get_or s (at + 1) 0 ≡ length A.marks
  pub start : get_or s (at + 2) 0 ≡ A.start
  pub marks : Stands s (at + 3) (flat_map mark_bytes A.marks)
  pub size : get_or s (at + 3 + length A.marks) 0 ≡ length A.alphabet
  pub alphabet : Stands s (at + 3 + length A.marks + 1) A.alphabet
  pub within : at + 3 + length A.marks + 1 + length A.alphabet ≤ length s

pub head_parts : (s : List ℕ) (at : ℕ) (A : Automaton) → Stands s at (head_bytes A) → HeadParts s at A
head_parts s at A h =
    let p = stands_head s at _ _ h in
    let q = stands_head s (at + 1) _ _ p.2 in
    let r = stands_head s (at + 1 + 1) _ _ q.2 in
    let two : at + 1 + 1 ≡ at + 2 = omega arith in
    let three : at + 1 + 1 + 1 ≡ at + 3 = omega arith in
    let m = stands_split s (at + 1 + 1 + 1) (flat_map mark_bytes A.marks) _ r.2 in
    let e : at + 1 + 1 + 1 + length (flat_map mark_bytes A.marks) ≡ at + 3 + length A.marks = omega (arith, marks_long A.marks) in
    let z = stands_head s (at + 3 + length A.marks) _ _ (subst (λ i. Stands s i (length A.alphabet ∷ flat_map event_bytes A.alphabet)) e m.1) in
    let letters : Stands s (at + 3 + length A.marks + 1) A.alphabet = subst (λ xs. Stands s (at + 3 + length A.marks + 1) xs) (joined-events A.alphabet) z.2 in
    record {
      role = p.1;
      locations = q.1;
      start = subst (λ i. get_or s i 0 ≡ A.start) two r.1;
      marks = subst (λ i. Stands s i (flat_map mark_bytes A.marks)) three m.0;
      size = z.1;
      alphabet = letters;
      within = stands_within s (at + 3 + length A.marks + 1) A.alphabet (omega (arith, z.0)) letters;
    }

pub head_fits : (s : List ℕ) (at : ℕ) (A : Automaton) → Stands s at (head_bytes A) → HeadFits s at
head_fits s at A h =
    let p = head_parts s at A h in
    record { size = rw p.locations (omega (arith, p.within)); end = rw (p.locations, p.size) p.within }

-- the alphabet as `alphabet_of` cuts it out
pub alphabet_part : (s : List ℕ) (at : ℕ) (A : Automaton) → Stands s at (head_bytes A) → take ((at + 3 + get_or s (at + 1) 0 + 1 + get_or s (at + 3 + get_or s (at + 1) 0) 0) - (at + 3 + get_or s (at + 1) 0 + 1)) (drop (at + 3 + get_or s (at + 1) 0 + 1) s) ≡ A.alphabet
alphabet_part s at A h =
    let p = head_parts s at A h in
    rw (p.locations, p.size) (stands_part s (at + 3 + length A.marks + 1) _ A.alphabet (let e : at + 3 + length A.marks + 1 + length A.alphabet - (at + 3 + length A.marks + 1) ≡ length A.alphabet = omega arith in e) p.alphabet)

-- whether a number is one of a list, as `contains` finds it
pub contained : (x : ℕ) (xs : List ℕ) → list_any (λ y. eqb y x) xs ≡ is_in x xs
contained x [] = refl
contained x (y ∷ ys) =
    let same : eqb y x ≡ eqb x y = grind (arith, nat_tests) in
    ap (λ b. b || list_any (λ z. eqb z x) ys) same ∙ ap (λ b. eqb x y || b) (contained x ys)
