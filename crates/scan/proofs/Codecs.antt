-- A scanner that reads exactly the encodings of the values that P holds of.
use Rattle.std.proofs.Common.{◌≡◌, ℕ, zero, suc, ◌+◌, ◌*◌, ◌/◌, ◌%◌, ◌<◌, ◌≤◌, Bool, true, false, cond, ◌&&◌, ltb, leb, List, [], ◌∷◌, ◌++◌, length, get_or, sym, refl, ap, ◌∙◌, subst, inl, inr, add-zero, arith, length-append}
use Rattle.std.proofs.lemmas.Bool.{cases_Bool, cases_lt, ltb-true, leb-true, lt-ltb, le-leb, and_parts, and_from}
use Rattle.std.proofs.lemmas.List.{append_assoc, append-nil}
use Rattle.std.specs.List.{flat_map}
use Rattle.scan.specs.declared.refusal.Origin.{Origin}
use Rattle.scan.specs.declared.refusal.FileRule.{FileRule}
use Rattle.scan.specs.Scan.{Scan, done, refuse, ask, and_then, Out, good, bad, run, tested, counted, numbered, zero_or_one, pair, collect}
use Rattle.scan.specs.Stands.{Stands, Bytes, two_bytes, Each}
use Rattle.scan.proofs.Runs.{after, run-after, run-then, run-done, run-ask, run_short, run-refuse}
use Rattle.scan.proofs.Standing.{stands_none, stands_append, stands_split, stands_one, stands_head}

-- the encoding of a value that was read stands where it was read from
pub record Read {A : Type 0} (enc : A → List ℕ) (P : A → Type 0) (s : List ℕ) (at : ℕ) (a : A) (end : ℕ) : Type 0 where
  pub holds : P a
  pub stands : Stands s at (enc a)
  pub ends : end ≡ at + length (enc a)

pub record Codec {A : Type 0} (p : Scan A) (enc : A → List ℕ) (P : A → Type 0) : Type 0 where
  pub sound : (s : List ℕ) → Bytes s → (at : ℕ) (a : A) (end : ℕ) → run p s at ≡ good a end → Read enc P s at a end
  pub complete : (s : List ℕ) (at : ℕ) (a : A) → P a → Stands s at (enc a) → run p s at ≡ good a (at + length (enc a))

-- what both parts read
pub both_read : {A B : Type 0} (p : Scan A) (next : A → Scan B) (s : List ℕ) (at : ℕ) (b : B) (end : ℕ) → run (and_then p next) s at ≡ good b end → (a : A) × (m : ℕ) × (run p s at ≡ good a m) × (run (next a) s m ≡ good b end)
both_read {A = A} {B = B} p next s at b end is = go (run p s at) refl (sym (run-after p next s at) ∙ is)
  where
    go : (m : Out A) → run p s at ≡ m → after m (λ a e. run (next a) s e) ≡ good b end → (a : A) × (k : ℕ) × (run p s at ≡ good a k) × (run (next a) s k ≡ good b end)
    go (good a m) e h = (a, m, e, h)
    go (bad f) e h = absurd (let z : ◌≡◌ {A = ℕ} 0 1 = cc in omega arith)

pub codec_done : {A : Type 0} (x : A) → Codec (done x) (λ _. []) (λ a. a ≡ x)
codec_done x = record {
  sound = λ s bytes at a end is.
      let e : good x at ≡ good a end = sym (run-done x s at) ∙ is in
      record { holds = cc; stands = stands_none s at; ends = (let q : end ≡ at = cc in q ∙ sym (add-zero at)) };
  complete = λ s at a is stands. run-done x s at ∙ rw (is, add-zero at);
}

-- first : the part of the whole that the first scanner reads
pub codec_then : {A B : Type 0} (p : Scan A) (next : A → Scan B) (enc_a : A → List ℕ) (P : A → Type 0) (enc_b : A → B → List ℕ) (Q : A → B → Type 0) (first : B → A) → Codec p enc_a P → ((a : A) → P a → Codec (next a) (enc_b a) (Q a)) → ((a : A) (b : B) → P a → Q a b → first b ≡ a) → Codec (and_then p next) (λ b. enc_a (first b) ++ enc_b (first b) b) (λ b. P (first b) × Q (first b) b)
codec_then {A = A} {B = B} p next enc_a P enc_b Q first one two back = record {
  sound = λ s bytes at b end is.
      let r = both_read p next s at b end is in
      let a = r.0 in
      let m = r.1 in
      let x = one.sound s bytes at a m r.2 in
      let y = (two a x.holds).sound s bytes m b end r.3 in
      let e : first b ≡ a = back a b x.holds y.holds in
      record {
        holds = rw e (x.holds, y.holds);
        stands = rw e (stands_append s at (enc_a a) (enc_b a b) x.stands (subst (λ k. Stands s k (enc_b a b)) x.ends y.stands));
        ends = rw e (simp length-append (omega (arith, x.ends, y.ends)));
      };
  complete = λ s at b holds stands.
      let parts = stands_split s at (enc_a (first b)) (enc_b (first b) b) stands in
      let x = one.complete s at (first b) holds.0 parts.0 in
      let y = (two (first b) holds.0).complete s (at + length (enc_a (first b))) b holds.1 parts.1 in
      run-then p next s at _ (first b) x ∙ y ∙ ap (good b) (simp length-append (omega arith));
}

-- what was asked for was there
pub asked_read : {A : Type 0} (o : Origin) (go : ℕ → Scan A) (s : List ℕ) (at : ℕ) (a : A) (end : ℕ) → run (ask o go) s at ≡ good a end → (at < length s) × (run (go (get_or s at 0)) s (at + 1) ≡ good a end)
asked_read o go s at a end is =
    elim (cases_lt at (length s)) [
      | inl under ↦ (under, sym (run-ask o go s at under) ∙ is)
      | inr past ↦ absurd (let e = sym (run_short o go s at past) ∙ is in let z : ◌≡◌ {A = ℕ} 0 1 = cc in omega arith)
    ]

-- a byte that passes a test
module _ (o : Origin) (rule : FileRule) (test : ℕ → Bool) where
  abbrev judge : ℕ → Scan ℕ
  judge b = cond (test b) (done b) (refuse o rule)

  judged : (s : List ℕ) (at b x end : ℕ) → run (judge x) s (at + 1) ≡ good b end → (test x ≡ true) × (b ≡ x) × (end ≡ at + 1)
  judged s at b x end is =
      elim (cases_Bool (test x)) [
        | inl yes' ↦
            let e : good x (at + 1) ≡ good b end = sym (run-done x s (at + 1)) ∙ (rw yes' at is) in
            (yes', cc, cc)
        | inr no' ↦ absurd (let e = sym (run-refuse o rule s at) ∙ (rw no' at is) in let z : ◌≡◌ {A = ℕ} 0 1 = cc in omega arith)
      ]

  tested_sound : (s : List ℕ) (at b end : ℕ) → run (tested o rule test) s at ≡ good b end → Read (λ x. x ∷ []) (λ x. test x ≡ true) s at b end
  unfolding tested
  tested_sound s at b end is =
      let r = asked_read o judge s at b end is in
      let h = judged s at b (get_or s at 0) end r.1 in
      record { holds = rw h.1 h.0; stands = rw h.1 (stands_one s at r.0); ends = h.2 }

  tested_complete : (s : List ℕ) (at b : ℕ) → test b ≡ true → Stands s at (b ∷ []) → run (tested o rule test) s at ≡ good b (at + 1)
  unfolding tested
  tested_complete s at b yes' stands =
      let h = stands_head s at b [] stands in
      run-ask o judge s at h.0 ∙ rw (h.1, yes') (run-done b s (at + 1))

  pub codec_tested : Codec (tested o rule test) (λ b. b ∷ []) (λ b. test b ≡ true)
  codec_tested = record { sound = λ s bytes. tested_sound s; complete = tested_complete }

-- two bytes, the high one first
module _ (o : Origin) where
  abbrev low : ℕ → ℕ → Scan ℕ
  low h l = done (h * 256 + l)

  abbrev high : ℕ → Scan ℕ
  high h = ask o (low h)

  pair_sound : (s : List ℕ) → Bytes s → (at n end : ℕ) → run (pair o) s at ≡ good n end → Read two_bytes (λ m. m < 65536) s at n end
  unfolding pair
  pair_sound s bytes at n end is =
      let r = asked_read o high s at n end is in
      let x = get_or s at 0 in
      let q = asked_read o (low x) s (at + 1) n end r.1 in
      let y = get_or s (at + 1) 0 in
      let e : good (x * 256 + y) (at + 1 + 1) ≡ good n end = sym (run-done _ s (at + 1 + 1)) ∙ q.1 in
      let is-n : n ≡ x * 256 + y = cc in
      let is-end : end ≡ at + 1 + 1 = cc in
      let bx : x < 256 = bytes at in
      let by : y < 256 = bytes (at + 1) in
      let hx : n / 256 ≡ x = omega arith in
      let hy : n % 256 ≡ y = omega arith in
      record {
        holds = omega arith;
        stands = rw (hx, hy) (stands_append s at (x ∷ []) (y ∷ []) (stands_one s at r.0) (stands_one s (at + 1) q.0));
        ends = omega arith;
      }

  pair_complete : (s : List ℕ) (at n : ℕ) → n < 65536 → Stands s at (two_bytes n) → run (pair o) s at ≡ good n (at + length (two_bytes n))
  unfolding pair
  pair_complete s at n few stands =
      let h = stands_head s at (n / 256) (n % 256 ∷ []) stands in
      let l = stands_head s (at + 1) (n % 256) [] h.2 in
      let e : n / 256 * 256 + n % 256 ≡ n = omega arith in
      run-ask o high s at h.0 ∙ run-ask o (low (get_or s at 0)) s (at + 1) l.0 ∙ run-done _ s (at + 1 + 1)
      ∙ rw (h.1, l.1, e) (ap (good n) (omega arith))

  pub codec_pair : Codec (pair o) two_bytes (λ n. n < 65536)
  codec_pair = record { sound = pair_sound; complete = pair_complete }

-- things one after another, each by what P says of those before it and of itself
module _ {A : Type 0} (one : List A → Scan A) (enc : A → List ℕ) (P : List A → A → Type 0) (each : (before : List A) → Codec (one before) enc (P before)) where
  collect_sound : (n : ℕ) (before : List A) (s : List ℕ) → Bytes s → (at : ℕ) (xs : List A) (end : ℕ) → run (collect n one before) s at ≡ good xs end → (new : List A) × (xs ≡ before ++ new) × (length new ≡ n) × Each P before new × Stands s at (flat_map enc new) × (end ≡ at + length (flat_map enc new))
  unfolding collect
  collect_sound zero before s bytes at xs end is =
      let e : good before at ≡ good xs end = sym (run-done before s at) ∙ is in
      let q : xs ≡ before = cc in
      let r : end ≡ at = cc in
      ([], q ∙ sym (append-nil before), refl, tt, stands_none s at, r ∙ sym (add-zero at))
  collect_sound (suc n) before s bytes at xs end is =
      let r = both_read (one before) (λ a. collect n one (before ++ a ∷ [])) s at xs end is in
      let a = r.0 in
      let x = (each before).sound s bytes at a r.1 r.2 in
      let more = collect_sound n (before ++ a ∷ []) s bytes r.1 xs end r.3 in
      let new = more.0 in (
        a ∷ new,
        more.1 ∙ append_assoc before (a ∷ []) new,
        ap suc more.2,
        (x.holds, more.3),
        stands_append s at (enc a) (flat_map enc new) x.stands (subst (λ k. Stands s k (flat_map enc new)) x.ends more.4),
        simp length-append (omega (arith, x.ends, more.5)),
      )

  collect_complete : (n : ℕ) (before new : List A) (s : List ℕ) (at : ℕ) → length new ≡ n → Each P before new → Stands s at (flat_map enc new) → run (collect n one before) s at ≡ good (before ++ new) (at + length (flat_map enc new))
  unfolding collect
  collect_complete zero before [] s at long h stands = run-done before s at ∙ rw (append-nil before, add-zero at)
  collect_complete zero before (x ∷ new) s at long h stands = absurd (let z : ⊥ = omega arith in z)
  collect_complete (suc n) before [] s at long h stands = absurd (let z : ⊥ = omega arith in z)
  collect_complete (suc n) before (x ∷ new) s at long h stands =
      let parts = stands_split s at (enc x) (flat_map enc new) stands in
      let here = (each before).complete s at x h.0 parts.0 in
      let more = collect_complete n (before ++ x ∷ []) new s (at + length (enc x)) (omega arith) h.1 parts.1 in
      run-then (one before) (λ a. collect n one (before ++ a ∷ [])) s at _ x here ∙ more
      ∙ rw (append_assoc before (x ∷ []) new) (ap (good (before ++ x ∷ new)) (simp length-append (omega arith)))

  pub codec_collect : (n : ℕ) → Codec (collect n one []) (flat_map enc) (λ xs. (length xs ≡ n) × Each P [] xs)
  codec_collect n = record {
    sound = λ s bytes at xs end is.
        let r = collect_sound n [] s bytes at xs end is in
        record { holds = rw r.1 (r.2, r.3); stands = rw r.1 r.4; ends = rw r.1 r.5 };
    complete = λ s at xs h stands. collect_complete n [] xs s at h.0 h.1 stands;
  }

-- the same scanner by other words: an equivalent predicate, and an encoding that is equal where it holds
pub codec_as : {A : Type 0} {p : Scan A} {enc : A → List ℕ} {P : A → Type 0} (new : A → List ℕ) (Q : A → Type 0) → Codec p enc P → ((a : A) → P a → Q a) → ((a : A) → Q a → P a) → ((a : A) → Q a → enc a ≡ new a) → Codec p new Q
codec_as {p = p} {enc = enc} new Q one to from alike = record {
  sound = λ s bytes at a end is.
      let r = one.sound s bytes at a end is in
      let e : enc a ≡ new a = alike a (to a r.holds) in
      record { holds = to a r.holds; stands = subst (Stands s at) e r.stands; ends = r.ends ∙ ap (λ xs. at + length xs) e };
  complete = λ s at a holds stands.
      let e : enc a ≡ new a = alike a holds in
      one.complete s at a (from a holds) (subst (Stands s at) (sym e) stands) ∙ ap (λ xs. good a (at + length xs)) e;
}

pub codec_same : {A : Type 0} {p : Scan A} {enc : A → List ℕ} {P : A → Type 0} (Q : A → Type 0) → Codec p enc P → ((a : A) → P a → Q a) → ((a : A) → Q a → P a) → Codec p enc Q
codec_same {enc = enc} Q one to from = codec_as enc Q one to from (λ a h. refl)

-- what was read by another name; back : the name that was read
pub codec_map : {A B : Type 0} {p : Scan A} {enc : A → List ℕ} {P : A → Type 0} (name : A → B) (back : B → A) → Codec p enc P → ((a : A) → P a → back (name a) ≡ a) → Codec (and_then p (λ a. done (name a))) (λ b. enc (back b)) (λ b. P (back b) × (b ≡ name (back b)))
codec_map {p = p} {enc = enc} {P = P} name back one same =
    codec_as (λ b. enc (back b)) (λ b. P (back b) × (b ≡ name (back b)))
    (codec_then p (λ a. done (name a)) enc P (λ a b. []) (λ a b. b ≡ name a) back one (λ a h. codec_done (name a)) (λ a b h e. ap back e ∙ same a h))
    (λ b h. h) (λ b h. h) (λ b h. append-nil (enc (back b)))

-- a scanner behind a test, which else refuses
pub codec_when : {A : Type 0} (t : Bool) (o : Origin) (rule : FileRule) {p : Scan A} {enc : A → List ℕ} {P : A → Type 0} → Codec p enc P → Codec (cond t p (refuse o rule)) enc (λ a. (t ≡ true) × P a)
unfolding run
codec_when true o rule {P = P} one = codec_same (λ a. (true ≡ true) × P a) one (λ a h. (refl, h)) (λ a h. h.1)
codec_when false o rule one = record {
  sound = λ s bytes at a end is. absurd (let z : ◌≡◌ {A = ℕ} 0 1 = cc in omega arith);
  complete = λ s at a holds stands. absurd (let e = holds.0 in let z : ◌≡◌ {A = ℕ} 0 1 = cc in omega arith);
}

-- a byte, and then what goes by it; first : the byte of the whole
pub codec_ask : {A : Type 0} (o : Origin) (go : ℕ → Scan A) (enc : ℕ → A → List ℕ) (P : ℕ → A → Type 0) (first : A → ℕ) → ((x : ℕ) → Codec (go x) (enc x) (P x)) → ((x : ℕ) (a : A) → P x a → first a ≡ x) → Codec (ask o go) (λ a. first a ∷ enc (first a) a) (λ a. P (first a) a)
codec_ask o go enc P first each back = record {
  sound = λ s bytes at a end is.
      let r = asked_read o go s at a end is in
      let x = get_or s at 0 in
      let y = (each x).sound s bytes (at + 1) a end r.1 in
      let e : first a ≡ x = back x a y.holds in
      record {
        holds = rw e y.holds;
        stands = rw e (stands_append s at (x ∷ []) (enc x a) (stands_one s at r.0) y.stands);
        ends = rw e (omega (arith, y.ends));
      };
  complete = λ s at a holds stands.
      let h = stands_head s at (first a) (enc (first a) a) stands in
      let y = (each (first a)).complete s (at + 1) a holds h.2 in
      run-ask o go s at h.0 ∙ ap (λ x. run (go x) s (at + 1)) h.1 ∙ y ∙ ap (good a) (omega arith);
}

-- counts, numbers, and zero or one
pub codec_counted : (o : Origin) (low high : ℕ) → Codec (counted o low high) (λ b. b ∷ []) (λ b. (low ≤ b) × (b ≤ high))
unfolding counted
codec_counted o low high =
    codec_same (λ b. (low ≤ b) × (b ≤ high)) (codec_tested o _ (λ b. leb low b && leb b high))
    (λ b h. let r = and_parts (leb low b) (leb b high) h in (leb-true low b r.0, leb-true b high r.1))
    (λ b h. and_from (leb low b) (leb b high) (le-leb low b h.0) (le-leb b high h.1))

pub codec_numbered : (o : Origin) (n : ℕ) → Codec (numbered o n) (λ b. b ∷ []) (λ b. b < n)
unfolding numbered
codec_numbered o n = codec_same (λ b. b < n) (codec_tested o _ (λ b. ltb b n)) (λ b h. ltb-true b n h) (λ b h. lt-ltb b n h)

pub codec_zero_or_one : (o : Origin) → Codec (zero_or_one o) (λ b. b ∷ []) (λ b. b < 2)
unfolding zero_or_one
codec_zero_or_one o = codec_same (λ b. b < 2) (codec_tested o _ (λ b. ltb b 2)) (λ b h. ltb-true b 2 h) (λ b h. lt-ltb b 2 h)

-- things one after another behind their count
pub codec_listed : {A : Type 0} (o : Origin) (low high : ℕ) (one : List A → Scan A) (enc : A → List ℕ) (P : List A → A → Type 0) → ((before : List A) → Codec (one before) enc (P before)) → Codec (and_then (counted o low high) (λ n. collect n one [])) (λ xs. length xs ∷ flat_map enc xs) (λ xs. (low ≤ length xs) × (length xs ≤ high) × Each P [] xs)
codec_listed o low high one enc P each =
    codec_same (λ xs. (low ≤ length xs) × (length xs ≤ high) × Each P [] xs)
    (codec_then (counted o low high) (λ n. collect n one []) _ _ (λ n. flat_map enc) (λ n xs. (length xs ≡ n) × Each P [] xs) length (codec_counted o low high) (λ n h. codec_collect one enc P each n) (λ n xs h e. e.0))
    (λ xs h. (h.0.0, h.0.1, h.1.1)) (λ xs h. ((h.0, h.1), (refl, h.2)))
