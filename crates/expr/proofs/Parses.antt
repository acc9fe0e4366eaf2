-- The scanner of expressions reads each well-formed expression from its bytes, and nothing else.
use Rattle.std.proofs.Common.{Option, Some, None, ◌≡◌, ℕ, zero, suc, ◌+◌, ◌-◌, ◌*◌, ◌/◌, ◌%◌, ◌<◌, ◌≤◌, max, cond, ltb, List, [], ◌∷◌, ◌++◌, length, get_or, sym, refl, ap, ◌∙◌, subst, inl, inr, arith, length-append, w16, SFits, to_z, of_z}
use Rattle.std.proofs.lemmas.Int.{to_z-of_z, of_z-to_z}
use Rattle.std.proofs.lemmas.Bool.{lt-ltb, le-ltb, ltb-true, cases_Bool, cases_lt}
use Rattle.std.proofs.lemmas.Bool.Decides.{nat_tests}
use Rattle.scan.specs.declared.refusal.Origin.{Origin}
use Rattle.scan.specs.declared.refusal.FileRule.TheVariants.{KnownNumber}
use Rattle.scan.specs.Scan.{Scan, done, refuse, Out, good, run}
use Rattle.scan.specs.Stands.{Stands, Bytes}
use Rattle.scan.proofs.Runs.{run-done, run-ask, run-then}
use Rattle.scan.proofs.Codecs.{both_read, asked_read}
use Rattle.scan.proofs.Standing.{stands_none, stands_append, stands_split, stands_one, stands_head}
use Rattle.expr.specs.declared.code.GuardCode.{GuardCode}
use Rattle.expr.specs.declared.code.GuardCode.TheVariants as G
use Rattle.expr.specs.declared.code.TermCode.{TermCode}
use Rattle.expr.specs.declared.code.TermCode.TheVariants as K
use Rattle.expr.specs.Codes.{truth_byte, joint_byte, order_byte, sign_byte, guard_code, term_code}
use Rattle.expr.specs.Expr.{Kind, guard, term, Expr, truth, negate, join, test, literal, variable, sum, branch, bytes_of, depth, Leaves}
use Rattle.expr.proofs.Places.{truth_code, joint_code, order_code, sign_code}
use Rattle.expr.specs.Scan.{Part, next_byte, Reader, one, two, guard_by, term_by, parse}

-- the byte that a code stands for
abbrev GuardByte : ℕ → Option GuardCode → Type 0
GuardByte b (Some (G.Truth v)) = b ≡ truth_byte v
GuardByte b (Some G.Not) = b ≡ 0x03
GuardByte b (Some (G.Join j)) = b ≡ joint_byte j
GuardByte b (Some (G.Test o)) = b ≡ order_byte o
GuardByte b None = Unit {0}

abbrev TermByte : ℕ → Option TermCode → Type 0
TermByte b (Some K.Literal) = b ≡ 0x10
TermByte b (Some K.Variable) = b ≡ 0x11
TermByte b (Some (K.Sum o)) = b ≡ sign_byte o
TermByte b (Some K.Case) = b ≡ 0x14
TermByte b None = Unit {0}

guard_byte : (b : ℕ) → GuardByte b (guard_code b)
guard_byte b = grind (arith, nat_tests)

term_byte : (b : ℕ) → TermByte b (term_code b)
term_byte b = grind (arith, nat_tests)

stands_cons : (s : List ℕ) (at x : ℕ) (xs : List ℕ) → at < length s → get_or s at 0 ≡ x → Stands s (at + 1) xs → Stands s at (x ∷ xs)
stands_cons s at x xs under is h = stands_append s at (x ∷ []) xs (subst (λ b. Stands s at (b ∷ [])) is (stands_one s at under)) h

-- two bytes are a value of 16 bits
fits16 : (m : ℕ) → m < 65536 → SFits w16 (to_z w16 m)
fits16 m h = elim (cases_lt m 32768) [
  | inl low ↦ rw (lt-ltb m 32768 low) (record { sfits = omega arith })
  | inr high ↦ rw (le-ltb m 32768 high) (record { sfits = omega arith })
]

-- what was read: its bytes stand there, and it keeps the depth, the length and the numbers
pub record Parsed (n d : ℕ) {k : Kind} (left : ℕ) (s : List ℕ) (at : ℕ) (p : Part k) (end : ℕ) : Type 0 where
  pub stands : Stands s at (bytes_of p.expr)
  pub ends : end ≡ at + length (bytes_of p.expr)
  pub uses : p.left + length (bytes_of p.expr) ≡ left
  pub shallow : depth p.expr ≤ d
  pub leaves : Leaves (λ v. v < n) (SFits w16) p.expr

module _ (n : ℕ) (o : Origin) (s : List ℕ) (bytes : Bytes s) where
  next_read : {A : Type 0} (left at : ℕ) (go : ℕ → ℕ → Scan A) (a : A) (end : ℕ) → run (next_byte n o left go) s at ≡ good a end → (rest : ℕ) × (left ≡ suc rest) × (at < length s) × (run (go (get_or s at 0) rest) s (at + 1) ≡ good a end)
  unfolding next_byte run
  next_read zero at go a end is = absurd (let z : ◌≡◌ {A = ℕ} 0 1 = cc in omega arith)
  next_read (suc rest) at go a end is = let r = asked_read o (λ b. go b rest) s at a end is in (rest, refl, r.0, r.1)

  -- readers of parts that are at most d deep
  module _ (d : ℕ) (read : Reader n o) (fine : (k : Kind) (left at : ℕ) (p : Part k) (end : ℕ) → run (read k left) s at ≡ good p end → Parsed n d left s at p end) where
    one_read : (j : Kind) {k : Kind} (left at : ℕ) (make : Expr j → Expr k) (p : Part k) (end : ℕ) → run (one n o read j left make) s at ≡ good p end → (a : Part j) × Parsed n d left s at a end × (p ≡ record { expr = make a.expr; left = a.left })
    one_read j left at make p end is =
        let r = both_read (read j left) _ s at p end is in
        let e = sym (run-done _ s r.1) ∙ r.3 in
        let q : r.1 ≡ end = cc in
        (r.0, subst (λ m. Parsed n d left s at r.0 m) q (fine j left at r.0 r.1 r.2), cc)

    two_read : (j : Kind) {k : Kind} (left at : ℕ) (make : Expr j → Expr j → Expr k) (p : Part k) (end : ℕ) → run (two n o read j left make) s at ≡ good p end → (a : Part j) × (b : Part j) × (m : ℕ) × Parsed n d left s at a m × Parsed n d a.left s m b end × (p ≡ record { expr = make a.expr b.expr; left = b.left })
    two_read j left at make p end is =
        let r = both_read (read j left) _ s at p end is in
        let q = one_read j r.0.left r.1 (make r.0.expr) p end r.3 in
        (r.0, q.0, r.1, fine j left at r.0 r.1 r.2, q.1, q.2)

    -- an operator before what stands after it
    packed : {k : Kind} (left at x : ℕ) (e : Expr k) (rest : List ℕ) (l : ℕ) (p : Part k) (end : ℕ) → p ≡ record { expr = e; left = l } → at < length s → get_or s at 0 ≡ x → bytes_of e ≡ x ∷ rest → Stands s (at + 1) rest → end ≡ at + 1 + length rest → l + length rest ≡ left → depth e ≤ suc d → Leaves (λ v. v < n) (SFits w16) e → Parsed n (suc d) (suc left) s at p end
    packed left at x e rest l p end is under head enc stands ends uses deep leaves =
        let long : length (bytes_of e) ≡ suc (length rest) = ap length enc in
        rw is (record {
          stands = rw enc (stands_cons s at x rest under head stands);
          ends = omega arith;
          uses = omega arith;
          shallow = deep;
          leaves = leaves;
        })

    pair_packed : (j : Kind) {k : Kind} (left at x : ℕ) (make : Expr j → Expr j → Expr k) (p : Part k) (end : ℕ) → at < length s → get_or s at 0 ≡ x → ((a b : Expr j) → bytes_of (make a b) ≡ x ∷ (bytes_of a ++ bytes_of b)) → ((a b : Expr j) → depth (make a b) ≡ suc (max (depth a) (depth b))) → ((a b : Expr j) → Leaves (λ v. v < n) (SFits w16) a → Leaves (λ v. v < n) (SFits w16) b → Leaves (λ v. v < n) (SFits w16) (make a b)) → run (two n o read j left make) s (at + 1) ≡ good p end → Parsed n (suc d) (suc left) s at p end
    pair_packed j left at x make p end under head enc deep leaves is =
        let r = two_read j left (at + 1) make p end is in
        let a = r.0 in
        let b = r.1 in
        let f = r.3 in
        let g = r.4 in
        let long = length-append (bytes_of a.expr) (bytes_of b.expr) in
        packed left at x (make a.expr b.expr) (bytes_of a.expr ++ bytes_of b.expr) b.left p end r.5 under head (enc a.expr b.expr)
        (stands_append s (at + 1) (bytes_of a.expr) (bytes_of b.expr) f.stands (subst (λ m. Stands s m (bytes_of b.expr)) f.ends g.stands))
        (omega (arith, f.ends, g.ends)) (omega (arith, f.uses, g.uses))
        (let e = deep a.expr b.expr in omega (arith, f.shallow, g.shallow)) (leaves a.expr b.expr f.leaves g.leaves)

    guard_sound : (code : Option GuardCode) (left at : ℕ) (p : Part guard) (end : ℕ) → at < length s → GuardByte (get_or s at 0) code → run (guard_by n o read left code) s (at + 1) ≡ good p end → Parsed n (suc d) (suc left) s at p end
    unfolding guard_by run
    guard_sound (Some (G.Truth v)) left at p end under head is =
        let q : at + 1 ≡ end = cc in
        packed left at (truth_byte v) (truth v) [] left p end (cc) under head refl (stands_none s (at + 1)) (omega arith) (omega arith) (omega arith) tt
    guard_sound (Some G.Not) left at p end under head is =
        let r = one_read guard left (at + 1) negate p end is in
        let f = r.1 in
        packed left at 0x03 (negate r.0.expr) (bytes_of r.0.expr) r.0.left p end r.2 under head refl f.stands f.ends f.uses (omega (arith, f.shallow)) f.leaves
    guard_sound (Some (G.Join j)) left at p end under head is = pair_packed guard left at (joint_byte j) (join j) p end under head (λ a b. refl) (λ a b. refl) (λ a b f g. (f, g)) is
    guard_sound (Some (G.Test q)) left at p end under head is = pair_packed term left at (order_byte q) (test q) p end under head (λ a b. refl) (λ a b. refl) (λ a b f g. (f, g)) is
    guard_sound None left at p end under head is = absurd (let z : ◌≡◌ {A = ℕ} 0 1 = cc in omega arith)

    literal_sound : (left at : ℕ) (p : Part term) (end : ℕ) → at < length s → get_or s at 0 ≡ 0x10 → run (term_by n o read left (Some K.Literal)) s (at + 1) ≡ good p end → Parsed n (suc d) (suc left) s at p end
    unfolding term_by
    literal_sound left at p end under head is =
        let r = next_read left (at + 1) _ p end is in
        let x = get_or s (at + 1) 0 in
        let q = next_read r.0 (at + 1 + 1) _ p end r.3 in
        let y = get_or s (at + 1 + 1) 0 in
        let bx : x < 256 = bytes (at + 1) in
        let by : y < 256 = bytes (at + 1 + 1) in
        let e = sym (run-done _ s (at + 1 + 1 + 1)) ∙ q.3 in
        let stop : at + 1 + 1 + 1 ≡ end = cc in
        let v = to_z w16 (x * 256 + y) in
        let back : of_z w16 v ≡ x * 256 + y = of_z-to_z w16 (x * 256 + y) (omega arith) in
        let hx : (x * 256 + y) / 256 ≡ x = omega arith in
        let hy : (x * 256 + y) % 256 ≡ y = omega arith in
        packed left at 0x10 (literal v) (x ∷ (y ∷ [])) q.0 p end (cc) under head (rw (back, hx, hy))
        (stands_cons s (at + 1) x (y ∷ []) r.2 refl (stands_one s (at + 1 + 1) q.2)) (omega arith) (omega (arith, r.1, q.1)) (omega arith) (fits16 (x * 256 + y) (omega arith))

    variable_sound : (left at : ℕ) (p : Part term) (end : ℕ) → at < length s → get_or s at 0 ≡ 0x11 → run (term_by n o read left (Some K.Variable)) s (at + 1) ≡ good p end → Parsed n (suc d) (suc left) s at p end
    unfolding term_by run
    variable_sound left at p end under head is =
        let r = next_read left (at + 1) _ p end is in
        let v = get_or s (at + 1) 0 in
        elim (cases_Bool (ltb v n)) [
          | inl yes' ↦
              let e = rw yes' at r.3 in
              let stop : at + 1 + 1 ≡ end = cc in
              packed left at 0x11 (variable v) (v ∷ []) r.0 p end (cc) under head refl (stands_one s (at + 1) r.2) (omega arith) (omega (arith, r.1)) (omega arith) (ltb-true v n yes')
          | inr no' ↦ absurd (let e = rw no' at r.3 in let z : ◌≡◌ {A = ℕ} 0 1 = cc in omega arith)
        ]

    case_sound : (left at : ℕ) (p : Part term) (end : ℕ) → at < length s → get_or s at 0 ≡ 0x14 → run (term_by n o read left (Some K.Case)) s (at + 1) ≡ good p end → Parsed n (suc d) (suc left) s at p end
    unfolding term_by
    case_sound left at p end under head is =
        let r = both_read (read guard left) _ s (at + 1) p end is in
        let g = fine guard left (at + 1) r.0 r.1 r.2 in
        let q = two_read term r.0.left r.1 (branch r.0.expr) p end r.3 in
        let c = r.0 in
        let a = q.0 in
        let b = q.1 in
        let f = q.3 in
        let h = q.4 in
        let long = length-append (bytes_of a.expr) (bytes_of b.expr) in
        let longer = length-append (bytes_of c.expr) (bytes_of a.expr ++ bytes_of b.expr) in
        packed left at 0x14 (branch c.expr a.expr b.expr) (bytes_of c.expr ++ (bytes_of a.expr ++ bytes_of b.expr)) b.left p end q.5 under head refl
        (stands_append s (at + 1) (bytes_of c.expr) _ g.stands (subst (λ m. Stands s m (bytes_of a.expr ++ bytes_of b.expr)) g.ends
        (stands_append s r.1 (bytes_of a.expr) (bytes_of b.expr) f.stands (subst (λ m. Stands s m (bytes_of b.expr)) f.ends h.stands))))
        (omega (arith, g.ends, f.ends, h.ends)) (omega (arith, g.uses, f.uses, h.uses)) (omega (arith, g.shallow, f.shallow, h.shallow)) (g.leaves, f.leaves, h.leaves)

    term_sound : (code : Option TermCode) (left at : ℕ) (p : Part term) (end : ℕ) → at < length s → TermByte (get_or s at 0) code → run (term_by n o read left code) s (at + 1) ≡ good p end → Parsed n (suc d) (suc left) s at p end
    unfolding term_by run
    term_sound (Some K.Literal) left at p end under head is = literal_sound left at p end under head is
    term_sound (Some K.Variable) left at p end under head is = variable_sound left at p end under head is
    term_sound (Some (K.Sum q)) left at p end under head is = pair_packed term left at (sign_byte q) (sum q) p end under head (λ a b. refl) (λ a b. refl) (λ a b f g. (f, g)) is
    term_sound (Some K.Case) left at p end under head is = case_sound left at p end under head is
    term_sound None left at p end under head is = absurd (let z : ◌≡◌ {A = ℕ} 0 1 = cc in omega arith)

  pub sound : (d : ℕ) (k : Kind) (left at : ℕ) (p : Part k) (end : ℕ) → run (parse n o d k left) s at ≡ good p end → Parsed n d left s at p end
  unfolding parse run
  sound zero k left at p end is = let r = next_read left at _ p end is in absurd (let e = r.3 in let z : ◌≡◌ {A = ℕ} 0 1 = cc in omega arith)
  sound (suc d) guard left at p end is =
      let r = next_read left at _ p end is in
      subst (λ l. Parsed n (suc d) l s at p end) (sym r.1) (guard_sound d (parse n o d) (sound d) (guard_code (get_or s at 0)) r.0 at p end r.2 (guard_byte (get_or s at 0)) r.3)
  sound (suc d) term left at p end is =
      let r = next_read left at _ p end is in
      subst (λ l. Parsed n (suc d) l s at p end) (sym r.1) (term_sound d (parse n o d) (sound d) (term_code (get_or s at 0)) r.0 at p end r.2 (term_byte (get_or s at 0)) r.3)

-- each expression that is well formed is read from its bytes
module _ (n : ℕ) (o : Origin) (s : List ℕ) where
  next_at_lem : {A : Type 0} (left at x : ℕ) (go : ℕ → ℕ → Scan A) → 0 < left → at < length s → get_or s at 0 ≡ x → run (next_byte n o left go) s at ≡ run (go x (left - 1)) s (at + 1)
  unfolding next_byte
  next_at_lem zero at x go some under is = absurd (let z : ⊥ = omega arith in z)
  next_at_lem (suc rest) at x go some under is =
      let e : suc rest - 1 ≡ rest = omega arith in
      run-ask o _ s at under ∙ rw (is, e)

  guard_at_lem : (d left at x : ℕ) (rest : List ℕ) (code : Option GuardCode) → 0 < d → 0 < left → Stands s at (x ∷ rest) → guard_code x ≡ code → run (parse n o d guard left) s at ≡ run (guard_by n o (parse n o (d - 1)) (left - 1) code) s (at + 1)
  unfolding parse
  guard_at_lem zero left at x rest code deep some stands is = absurd (let z : ⊥ = omega arith in z)
  guard_at_lem (suc d) left at x rest code deep some stands is =
      let e : suc d - 1 ≡ d = omega arith in
      let h = stands_head s at x rest stands in
      next_at_lem left at x _ some h.0 h.1 ∙ rw (is, e)

  term_at_lem : (d left at x : ℕ) (rest : List ℕ) (code : Option TermCode) → 0 < d → 0 < left → Stands s at (x ∷ rest) → term_code x ≡ code → run (parse n o d term left) s at ≡ run (term_by n o (parse n o (d - 1)) (left - 1) code) s (at + 1)
  unfolding parse
  term_at_lem zero left at x rest code deep some stands is = absurd (let z : ⊥ = omega arith in z)
  term_at_lem (suc d) left at x rest code deep some stands is =
      let e : suc d - 1 ≡ d = omega arith in
      let h = stands_head s at x rest stands in
      next_at_lem left at x _ some h.0 h.1 ∙ rw (is, e)

  -- an expression is read from where its bytes stand
  abbrev Complete : ℕ → {k : Kind} → Expr k → Type 0
  Complete d {k} e = (left at : ℕ) → depth e ≤ d → Leaves (λ v. v < n) (SFits w16) e → length (bytes_of e) ≤ left → Stands s at (bytes_of e) → run (parse n o d k left) s at ≡ good (record { expr = e; left = left - length (bytes_of e) }) (at + length (bytes_of e))

  abbrev Read : ℕ → {k : Kind} → Expr k → ℕ → ℕ → Type 0
  Read d {k} e left at = run (parse n o d k left) s at ≡ good (record { expr = e; left = left - length (bytes_of e) }) (at + length (bytes_of e))

  same_part : {k : Kind} (e : Expr k) (l m i j : ℕ) → l ≡ m → i ≡ j → ◌≡◌ {A = Out (Part k)} (good (record { expr = e; left = l }) i) (good (record { expr = e; left = m }) j)
  same_part e l m i j p q = rw (p, q)

  -- one part and two parts
  one_met : (d : ℕ) {j k : Kind} (make : Expr j → Expr k) (a : Expr j) (left at : ℕ) → Read d a left at → run (one n o (parse n o d) j left make) s at ≡ good (record { expr = make a; left = left - length (bytes_of a) }) (at + length (bytes_of a))
  one_met d make a left at is = run-then (parse n o d _ left) _ s at _ _ is ∙ run-done _ s _

  two_met : (d : ℕ) {j k : Kind} (make : Expr j → Expr j → Expr k) (a b : Expr j) (left at : ℕ) → Read d a left at → Read d b (left - length (bytes_of a)) (at + length (bytes_of a)) → run (two n o (parse n o d) j left make) s at ≡ good (record { expr = make a b; left = left - length (bytes_of a) - length (bytes_of b) }) (at + length (bytes_of a) + length (bytes_of b))
  two_met d make a b left at p q = run-then (parse n o d _ left) _ s at _ _ p ∙ one_met d (make a) b _ _ q

  -- an operator with two parts
  pair_met : (d : ℕ) {j k : Kind} (make : Expr j → Expr j → Expr k) (a b : Expr j) (x left at : ℕ) → ((l i : ℕ) → length (bytes_of a) ≤ l → Stands s i (bytes_of a) → Read (d - 1) a l i) → ((l i : ℕ) → length (bytes_of b) ≤ l → Stands s i (bytes_of b) → Read (d - 1) b l i) → bytes_of (make a b) ≡ x ∷ (bytes_of a ++ bytes_of b) → length (bytes_of (make a b)) ≤ left → Stands s at (bytes_of (make a b)) → run (two n o (parse n o (d - 1)) j (left - 1) make) s (at + 1) ≡ good (record { expr = make a b; left = left - length (bytes_of (make a b)) }) (at + length (bytes_of (make a b)))
  pair_met d make a b x left at first second enc fits stands =
      let h = stands_head s at x _ (rw enc at stands) in
      let parts = stands_split s (at + 1) (bytes_of a) (bytes_of b) h.2 in
      let long : length (bytes_of (make a b)) ≡ suc (length (bytes_of a) + length (bytes_of b)) = ap length enc ∙ ap suc (length-append (bytes_of a) (bytes_of b)) in
      two_met (d - 1) make a b (left - 1) (at + 1) (first _ _ (omega arith) parts.0) (second _ _ (omega arith) parts.1)
      ∙ same_part (make a b) _ _ _ _ (omega arith) (omega arith)

  known : (v rest at : ℕ) → v < n → run {A = Part term} (cond (ltb v n) (done (record { expr = variable v; left = rest })) (refuse o KnownNumber)) s at ≡ good (record { expr = variable v; left = rest }) at
  known v rest at h = rw (lt-ltb v n h) (run-done _ s at)

  pub complete : (d : ℕ) {k : Kind} (e : Expr k) → Complete d e
  unfolding guard_by term_by
  complete d (truth v) left at deep leaves fits stands =
      guard_at_lem d left at (truth_byte v) [] _ (omega arith) (omega arith) stands (truth_code v) ∙ run-done _ s (at + 1)
  complete d (negate a) left at deep leaves fits stands =
      let h = stands_head s at 0x03 _ stands in
      guard_at_lem d left at 0x03 (bytes_of a) _ (omega arith) (omega arith) stands refl
      ∙ one_met (d - 1) negate a (left - 1) (at + 1) (complete (d - 1) a (left - 1) (at + 1) (omega arith) leaves (omega arith) h.2)
      ∙ same_part (negate a) _ _ _ _ (omega arith) (omega arith)
  complete d (join j a b) left at deep leaves fits stands =
      guard_at_lem d left at (joint_byte j) _ _ (omega arith) (omega arith) stands (joint_code j)
      ∙ pair_met d (join j) a b (joint_byte j) left at (λ l i. complete (d - 1) a l i (omega arith) leaves.0) (λ l i. complete (d - 1) b l i (omega arith) leaves.1) refl fits stands
  complete d (test q a b) left at deep leaves fits stands =
      guard_at_lem d left at (order_byte q) _ _ (omega arith) (omega arith) stands (order_code q)
      ∙ pair_met d (test q) a b (order_byte q) left at (λ l i. complete (d - 1) a l i (omega arith) leaves.0) (λ l i. complete (d - 1) b l i (omega arith) leaves.1) refl fits stands
  complete d (literal v) left at deep leaves fits stands =
      let h = stands_head s at 0x10 _ stands in
      let g = stands_head s (at + 1) _ _ h.2 in
      let f = stands_head s (at + 1 + 1) _ [] g.2 in
      let m = of_z w16 v in
      let e : m / 256 * 256 + m % 256 ≡ m = omega arith in
      let back : to_z w16 (m / 256 * 256 + m % 256) ≡ v = ap (to_z w16) e ∙ to_z-of_z w16 v leaves in
      term_at_lem d left at 0x10 _ _ (omega arith) (omega arith) stands refl
      ∙ next_at_lem (left - 1) (at + 1) (m / 256) _ (omega arith) g.0 g.1 ∙ next_at_lem (left - 1 - 1) (at + 1 + 1) (m % 256) _ (omega arith) f.0 f.1
      ∙ run-done _ s (at + 1 + 1 + 1) ∙ rw back (same_part (literal v) _ _ _ _ (omega arith) (omega arith))
  complete d (variable v) left at deep leaves fits stands =
      let h = stands_head s at 0x11 _ stands in
      let g = stands_head s (at + 1) v [] h.2 in
      term_at_lem d left at 0x11 _ _ (omega arith) (omega arith) stands refl
      ∙ next_at_lem (left - 1) (at + 1) v _ (omega arith) g.0 g.1 ∙ known v (left - 1 - 1) (at + 1 + 1) leaves
      ∙ same_part (variable v) _ _ _ _ (omega arith) (omega arith)
  complete d (sum q a b) left at deep leaves fits stands =
      term_at_lem d left at (sign_byte q) _ _ (omega arith) (omega arith) stands (sign_code q)
      ∙ pair_met d (sum q) a b (sign_byte q) left at (λ l i. complete (d - 1) a l i (omega arith) leaves.0) (λ l i. complete (d - 1) b l i (omega arith) leaves.1) refl fits stands
  complete d (branch g a b) left at deep leaves fits stands =
      let h = stands_head s at 0x14 _ stands in
      let parts = stands_split s (at + 1) (bytes_of g) _ h.2 in
      let more = stands_split s (at + 1 + length (bytes_of g)) (bytes_of a) (bytes_of b) parts.1 in
      let long = length-append (bytes_of a) (bytes_of b) in
      let longer = length-append (bytes_of g) (bytes_of a ++ bytes_of b) in
      term_at_lem d left at 0x14 _ _ (omega arith) (omega arith) stands refl
      ∙ run-then (parse n o (d - 1) guard (left - 1)) _ s (at + 1) _ _ (complete (d - 1) g (left - 1) (at + 1) (omega arith) leaves.0 (omega arith) parts.0)
      ∙ two_met (d - 1) (branch g) a b _ _ (complete (d - 1) a _ _ (omega arith) leaves.1 (omega arith) more.0) (complete (d - 1) b _ _ (omega arith) leaves.2 (omega arith) more.1)
      ∙ same_part (branch g a b) _ _ _ _ (omega arith) (omega arith)
