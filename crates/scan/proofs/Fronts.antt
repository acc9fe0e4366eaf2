-- What a scanner says of a file depends only on the bytes that it has read.
use Rattle.std.proofs.Common.{◌≡◌, ℕ, ◌+◌, ◌-◌, ◌<◌, ◌≤◌, ◌⊎◌, List, length, get_or, take, sym, ap, ◌∙◌, inl, inr, arith, length-take}
use Rattle.std.proofs.lemmas.List.{get_or-take, get_or_past, take-take}
use Rattle.std.proofs.lemmas.Bool.{cases_lt}
use Rattle.scan.specs.declared.refusal.Origin.{Origin}
use Rattle.scan.specs.declared.refusal.Fault.{Fault}
use Rattle.scan.specs.declared.refusal.Fault.TheVariants.{File, Buffer}
use Rattle.scan.specs.declared.refusal.FileFault.{FileFault}
use Rattle.scan.specs.declared.refusal.FileFault.TheVariants.{EndsTooSoon, BytesFollow, Breaks}
use Rattle.scan.specs.declared.refusal.FileRule.{FileRule}
use Rattle.scan.specs.Faults.{fault_at}
use Rattle.scan.specs.Scan.{Scan, done, refuse, ask, Out, good, bad, run}
use Rattle.scan.specs.Fronts.{SameFront}
use Rattle.scan.specs.Stands.{Bytes}
use Rattle.scan.proofs.Runs.{run-ask, run_short}
use Rattle.scan.proofs.Codecs.{asked_read}

-- a byte of the shared front
front_byte : (n : ℕ) (s t : List ℕ) → SameFront n s t → (k : ℕ) → k < n → (k < length t) × (get_or s k 0 ≡ get_or t k 0)
front_byte n s t h k under = (
  omega (arith, h.there),
  sym (get_or-take n s k 0 under) ∙ ap (λ xs. get_or xs k 0) h.same ∙ get_or-take n t k 0 under,
)

-- the byte of a refusal
abbrev byte_of : Fault → ℕ
byte_of (File wrong place) = place.byte
byte_of (Buffer needed) = 0

abbrev out_byte : {A : Type 0} → Out A → ℕ
out_byte (good a end) = 0
out_byte (bad f) = byte_of f

-- a scanner goes forward
pub good_forward : {A : Type 0} (p : Scan A) (s : List ℕ) (at : ℕ) (a : A) (end : ℕ) → at ≤ length s → run p s at ≡ good a end → (at ≤ end) × (end ≤ length s)
unfolding run
good_forward (done x) s at a end h is = let e : at ≡ end = cc in (omega arith, omega arith)
good_forward (refuse o rule) s at a end h is = absurd (let z : ◌≡◌ {A = ℕ} 0 1 = cc in omega arith)
good_forward (ask o go) s at a end h is =
    let r = asked_read o go s at a end is in
    let f = good_forward (go (get_or s at 0)) s (at + 1) a end (omega (arith, r.0)) r.1 in
    (omega (arith, f.0), f.1)

-- what was read is read again in each file that begins alike
pub good_alike : {A : Type 0} (p : Scan A) (s t : List ℕ) (at : ℕ) (a : A) (end : ℕ) → at ≤ length s → run p s at ≡ good a end → SameFront end s t → run p t at ≡ good a end
unfolding run
good_alike (done x) s t at a end h is same = is
good_alike (refuse o rule) s t at a end h is same = absurd (let z : ◌≡◌ {A = ℕ} 0 1 = cc in omega arith)
good_alike (ask o go) s t at a end h is same =
    let r = asked_read o go s at a end is in
    let f = good_forward (go (get_or s at 0)) s (at + 1) a end (omega (arith, r.0)) r.1 in
    let b = front_byte end s t same at (omega (arith, f.0)) in
    run-ask o go t at b.0 ∙ rw (← b.1) (good_alike (go (get_or s at 0)) s t (at + 1) a end (omega (arith, r.0)) r.1 same)

-- what was refused: the byte that was asked for was missing, or the refusal came later
asked_bad : {A : Type 0} (o : Origin) (go : ℕ → Scan A) (s : List ℕ) (at : ℕ) (f : Fault) → run (ask o go) s at ≡ bad f → ((length s ≤ at) × (f ≡ fault_at EndsTooSoon o at)) ⊎ ((at < length s) × (run (go (get_or s at 0)) s (at + 1) ≡ bad f))
asked_bad o go s at f is =
    elim (cases_lt at (length s)) [
      | inl under ↦ inr (under, sym (run-ask o go s at under) ∙ is)
      | inr past ↦ inl (past, (let e = sym (run_short o go s at past) ∙ is in cc))
    ]

-- a scanner refuses a byte that it has read
pub bad_forward : {A : Type 0} (p : Scan A) (s : List ℕ) (at : ℕ) (wrong : FileFault) (o : Origin) (i : ℕ) → run p s at ≡ bad (fault_at wrong o i) → at ≤ i + 1
unfolding run
bad_forward (done x) s at wrong o i is = absurd (let z : ◌≡◌ {A = ℕ} 0 1 = cc in omega arith)
bad_forward (refuse q rule) s at wrong o i is = let e : at - 1 ≡ i = ap out_byte is in omega arith
bad_forward (ask q go) s at wrong o i is =
    elim (asked_bad q go s at _ is) [
      | inl h ↦ let k : i ≡ at = ap byte_of h.1 in omega arith
      | inr h ↦ omega (arith, bad_forward (go (get_or s at 0)) s (at + 1) wrong o i h.1)
    ]

pub broken_within : {A : Type 0} (p : Scan A) (s : List ℕ) (at : ℕ) (rule : FileRule) (o : Origin) (i : ℕ) → 0 < at → at ≤ length s → run p s at ≡ bad (fault_at (Breaks rule) o i) → i < length s
unfolding run
broken_within (done x) s at rule o i some h is = absurd (let z : ◌≡◌ {A = ℕ} 0 1 = cc in omega arith)
broken_within (refuse q r) s at rule o i some h is = let e : at - 1 ≡ i = ap out_byte is in omega arith
broken_within (ask q go) s at rule o i some h is =
    elim (asked_bad q go s at _ is) [
      | inl g ↦ let e = g.1 in absurd (let z : ◌≡◌ {A = ℕ} 0 1 = cc in omega arith)
      | inr g ↦ broken_within (go (get_or s at 0)) s (at + 1) rule o i (omega arith) (omega (arith, g.0)) g.1
    ]

-- each file that has the bytes up to the place is refused alike
pub broken_alike : {A : Type 0} (p : Scan A) (s t : List ℕ) (at : ℕ) (rule : FileRule) (o : Origin) (i : ℕ) → run p s at ≡ bad (fault_at (Breaks rule) o i) → SameFront (i + 1) s t → run p t at ≡ bad (fault_at (Breaks rule) o i)
unfolding run
broken_alike (done x) s t at rule o i is same = absurd (let z : ◌≡◌ {A = ℕ} 0 1 = cc in omega arith)
broken_alike (refuse q r) s t at rule o i is same = is
broken_alike (ask q go) s t at rule o i is same =
    elim (asked_bad q go s at _ is) [
      | inl g ↦ let e = g.1 in absurd (let z : ◌≡◌ {A = ℕ} 0 1 = cc in omega arith)
      | inr g ↦
          let far = bad_forward (go (get_or s at 0)) s (at + 1) (Breaks rule) o i g.1 in
          let b = front_byte (i + 1) s t same at (omega (arith, far)) in
          run-ask q go t at b.0 ∙ rw (← b.1) (broken_alike (go (get_or s at 0)) s t (at + 1) rule o i g.1 same)
    ]

-- a file that ends too soon does so at its length, and so does each of its beginnings
pub short_at_length : {A : Type 0} (p : Scan A) (s : List ℕ) (at : ℕ) (o : Origin) (i : ℕ) → at ≤ length s → run p s at ≡ bad (fault_at EndsTooSoon o i) → i ≡ length s
unfolding run
short_at_length (done x) s at o i h is = absurd (let z : ◌≡◌ {A = ℕ} 0 1 = cc in omega arith)
short_at_length (refuse q rule) s at o i h is = absurd (let z : ◌≡◌ {A = ℕ} 0 1 = cc in omega arith)
short_at_length (ask q go) s at o i h is =
    elim (asked_bad q go s at _ is) [
      | inl g ↦ let k : i ≡ at = ap byte_of g.1 in omega (arith, g.0)
      | inr g ↦ short_at_length (go (get_or s at 0)) s (at + 1) o i (omega (arith, g.0)) g.1
    ]

pub short_before : {A : Type 0} (p : Scan A) (s : List ℕ) (at : ℕ) (o : Origin) (i n : ℕ) → at ≤ n → n ≤ length s → run p s at ≡ bad (fault_at EndsTooSoon o i) → (q : Origin) × (run p (take n s) at ≡ bad (fault_at EndsTooSoon q n))
unfolding run
short_before (done x) s at o i n h k is = absurd (let z : ◌≡◌ {A = ℕ} 0 1 = cc in omega arith)
short_before (refuse q rule) s at o i n h k is = absurd (let z : ◌≡◌ {A = ℕ} 0 1 = cc in omega arith)
short_before (ask q go) s at o i n h k is =
    let long : length (take n s) ≡ n = simp length-take (omega arith) in
    elim (cases_lt at n) [
      | inl under ↦ elim (asked_bad q go s at _ is) [
        | inl g ↦ absurd (let z : ⊥ = omega (arith, g.0) in z)
        | inr g ↦
            let rest = short_before (go (get_or s at 0)) s (at + 1) o i n (omega arith) k g.1 in
            (rest.0, run-ask q go (take n s) at (omega arith) ∙ rw (get_or-take n s at 0 under) rest.1)
      ]
      | inr past ↦ let e : at ≡ n = omega arith in (q, run_short q go (take n s) at (omega arith) ∙ ap (λ m. bad (fault_at EndsTooSoon q m)) e)
    ]

-- to see that nothing follows is not a scanner's task
pub never_follows : {A : Type 0} (p : Scan A) (s : List ℕ) (at : ℕ) (o : Origin) (i : ℕ) → run p s at ≡ bad (fault_at BytesFollow o i) → ⊥
unfolding run
never_follows (done x) s at o i is = absurd (let z : ◌≡◌ {A = ℕ} 0 1 = cc in omega arith)
never_follows (refuse q rule) s at o i is = absurd (let z : ◌≡◌ {A = ℕ} 0 1 = cc in omega arith)
never_follows (ask q go) s at o i is =
    elim (asked_bad q go s at _ is) [
      | inl g ↦ let e = g.1 in absurd (let z : ◌≡◌ {A = ℕ} 0 1 = cc in omega arith)
      | inr g ↦ never_follows (go (get_or s at 0)) s (at + 1) o i g.1
    ]

-- a scanner knows of no buffer
pub never_buffer : {A : Type 0} (p : Scan A) (s : List ℕ) (at needed : ℕ) → run p s at ≡ bad (Buffer needed) → ⊥
unfolding run
never_buffer (done x) s at needed is = absurd (let z : ◌≡◌ {A = ℕ} 0 1 = cc in omega arith)
never_buffer (refuse q rule) s at needed is = absurd (let z : ◌≡◌ {A = ℕ} 0 1 = cc in omega arith)
never_buffer (ask q go) s at needed is =
    elim (asked_bad q go s at _ is) [
      | inl g ↦ let e = g.1 in absurd (let z : ◌≡◌ {A = ℕ} 0 1 = cc in omega arith)
      | inr g ↦ never_buffer (go (get_or s at 0)) s (at + 1) needed g.1
    ]

-- a scanner that begins by asking for a byte
abbrev pub Asks : {A : Type 0} → Scan A → Type 0
Asks (done x) = ⊥
Asks (refuse o rule) = ⊥
Asks (ask o go) = Unit {0}

pub broken_inside : {A : Type 0} (p : Scan A) (s : List ℕ) (rule : FileRule) (o : Origin) (i : ℕ) → Asks p → run p s 0 ≡ bad (fault_at (Breaks rule) o i) → i < length s
broken_inside (done x) s rule o i asks is = absurd asks
broken_inside (refuse q r) s rule o i asks is = absurd asks
broken_inside (ask q go) s rule o i asks is =
    elim (asked_bad q go s 0 _ is) [
      | inl g ↦ let e = g.1 in absurd (let z : ◌≡◌ {A = ℕ} 0 1 = cc in omega arith)
      | inr g ↦ broken_within (go (get_or s 0 0)) s 1 rule o i (omega arith) (omega (arith, g.0)) g.1
    ]

-- a shorter front, and a file that is cut off
pub front_shorter : (m n : ℕ) (s t : List ℕ) → m ≤ n → SameFront n s t → SameFront m s t
front_shorter m n s t h same = record {
  here = omega (arith, same.here);
  there = omega (arith, same.there);
  same = sym (take-take m n s h) ∙ ap (λ xs. take m xs) same.same ∙ take-take m n t h;
}

pub front_cut : (n : ℕ) (s : List ℕ) → n ≤ length s → SameFront n s (take n s)
front_cut n s h = record { here = h; there = simp length-take (omega arith); same = sym (take-take n n s (omega arith)) }

pub bytes_cut : (n : ℕ) (s : List ℕ) → Bytes s → Bytes (take n s)
bytes_cut n s bytes i =
    elim (cases_lt i n) [
      | inl under ↦ rw (get_or-take n s i 0 under) (bytes i)
      | inr past ↦
          let long : length (take n s) ≤ i = simp length-take (omega arith) in
          rw (get_or_past (take n s) i 0 long) (omega arith)
    ]
