-- What the scanners of the sections say, from what they say of their parts.
use Rattle.std.proofs.Common.{◌≡◌, ℕ, suc, ◌+◌, ◌*◌, ◌<◌, ◌≤◌, true, false, List, [], ◌∷◌, ◌++◌, length, ℤ, Ok, Err, Result, sym, ap, ◌∙◌, subst, arith, w16, to_z, of_z}
use Rattle.scan.specs.declared.refusal.Origin.{Origin}
use Rattle.scan.specs.declared.refusal.Section.{Section}
use Rattle.scan.specs.declared.refusal.Section.TheVariants.{Events, Variables}
use Rattle.scan.specs.declared.refusal.Fault.{Fault}
use Rattle.scan.specs.declared.refusal.FileFault.TheVariants.{Breaks}
use Rattle.scan.specs.declared.refusal.FileRule.TheVariants.{VariableValues}
use Rattle.scan.specs.Faults.{fault_at}
use Rattle.scan.specs.Scan.{Scan, and_then, Out, good, bad, run, counted, zero_or_one, pair, collect}
use Rattle.scan.specs.Says.{Says, Next}
use Rattle.scan.proofs.Runs.{run-done, run-refuse, run-then, run-fails, answers, says_by, byte_bad, byte_read, then_bad, then_read}
use Rattle.scan.proofs.Loops.{Going, going_none, going_more, going_bad}
use Rattle.system.specs.System.{EventKind, Variable}
use Rattle.system.specs.Ranges.{ValueAt}
use Rattle.system.specs.Heads.{BytesEach}
use Rattle.system.proofs.Eaches.{bound-append}
use Rattle.system.specs.Scan.{origin, row_after, kind_of, event_row, events, value, in_order, ruled, variable_row, variables, mark, mark_of, rising, bound}

-- a value of two bytes
module _ (o : Origin) (s : List ℕ) (at : ℕ) where
  pub value_bad : (f : Fault) → Says (Next (at + 1)) (Err f) (run (pair o) s at) → run (value o) s at ≡ bad f
  unfolding value
  value_bad f says = then_bad (pair o) _ s at (Next (at + 1)) f says

  pub value_read : (n : ℕ) (v : ℤ) → Says (Next (at + 1)) (Ok n) (run (pair o) s at) → v ≡ to_z w16 n → Says (ValueAt at) (Ok v) (run (value o) s at)
  unfolding value
  value_read n v says is =
      answers (ValueAt at) _ v (to_z w16 n) (at + 1 + 1)
      (then_read (pair o) _ s at (Next (at + 1)) n n (at + 1 + 1) (λ x e h. h) says ∙ run-done _ s (at + 1 + 1))
      (sym is, omega arith)

-- a value and what follows it
module _ {B : Type 0} (o : Origin) (next : ℤ → Scan B) (s : List ℕ) (at : ℕ) where
  pub value_fails : (f : Fault) → Says (ValueAt at) (Err f) (run (value o) s at) → run (and_then (value o) next) s at ≡ bad f
  value_fails f says = then_bad (value o) next s at (ValueAt at) f says

  pub value_then : (v : ℤ) (end : ℕ) → end ≡ at + 2 → Says (ValueAt at) (Ok v) (run (value o) s at) → run (and_then (value o) next) s at ≡ run (next v) s end
  value_then v end e says = then_read (value o) next s at (ValueAt at) v v end (λ x i h. (h.0, h.1 ∙ sym e)) says

-- the row that the code counts is the row after those read
pub same_row : {A : Type 0} (section : Section) (before : List A) (k : ℕ) (o : Origin) → length before ≡ k → o ≡ origin section (suc k) → o ≡ row_after section before
same_row section before k o count is = is ∙ ap (λ n. origin section (suc n)) (sym count)

-- the floor after a number that is not below it
pub bound-next : (before : List ℕ) (x : ℕ) → bound before ≤ x → bound (before ++ x ∷ []) ≡ x + 1
bound-next before x h = let e = bound-append before (x ∷ []) in omega arith

pub bound-same : (before : List ℕ) (x : ℕ) → bound before ≤ suc x → bound (before ++ x ∷ []) ≡ x + 1
bound-same before x h = let e = bound-append before (x ∷ []) in omega arith

module _ (s : List ℕ) where
  abbrev pub event_at : List EventKind → Scan EventKind
  event_at before = event_row (row_after Events before)

  abbrev pub EventsGoing : ℕ → ℕ → Type 0
  EventsGoing n k = Going (λ _. Unit {0}) event_at s (run events s 0) n k (k + 1)

  pub events_bad : (o : Origin) (f : Fault) → o ≡ origin Events 0 → Says (Next 0) (Err f) (run (counted o 1 64) s 0) → run events s 0 ≡ bad f
  unfolding events
  events_bad o f is says = byte_bad _ _ s 0 f (subst (λ x. Says (Next 0) (Err f) (run (counted x 1 64) s 0)) is says)

  pub events_begin : (o : Origin) (n : ℕ) → o ≡ origin Events 0 → Says (Next 0) (Ok n) (run (counted o 1 64) s 0) → EventsGoing n 0
  unfolding events
  events_begin o n is says =
      going_none event_at s (λ _. Unit {0}) (run events s 0) n 1
      (byte_read _ _ s 0 n (subst (λ x. Says (Next 0) (Ok n) (run (counted x 1 64) s 0)) is says)) tt

  pub event_bad : (n k : ℕ) (o : Origin) (f : Fault) → k < n → o ≡ origin Events (suc k) → EventsGoing n k → Says (Next (k + 1)) (Err f) (run (zero_or_one o) s (k + 1)) → run events s 0 ≡ bad f
  unfolding event_row
  event_bad n k o f under is g says =
      going_bad event_at s _ _ n k (k + 1) f under g
      (byte_bad _ _ s (k + 1) f (subst (λ x. Says (Next (k + 1)) (Err f) (run (zero_or_one x) s (k + 1))) (same_row Events g.before k o g.count is) says))

  pub event_read : (n k : ℕ) (o : Origin) (b : ℕ) → k < n → o ≡ origin Events (suc k) → EventsGoing n k → Says (Next (k + 1)) (Ok b) (run (zero_or_one o) s (k + 1)) → EventsGoing n (k + 1)
  unfolding event_row
  event_read n k o b under is g says =
      going_more event_at s _ _ _ n k (k + 1) (k + 1 + 1) under g (kind_of b)
      (byte_read _ _ s (k + 1) b (subst (λ x. Says (Next (k + 1)) (Ok b) (run (zero_or_one x) s (k + 1))) (same_row Events g.before k o g.count is) says) ∙ run-done _ s (k + 1 + 1)) tt

-- signed values that are passed show as their bits and back
pub passed_values : (a b c d e : ℤ) → to_z w16 (of_z w16 a) ≡ a → to_z w16 (of_z w16 b) ≡ b → to_z w16 (of_z w16 c) ≡ c → to_z w16 (of_z w16 d) ≡ d → to_z w16 (of_z w16 e) ≡ e → in_order (record { low = a; high = b; start = c; marked_low = d; marked_high = e }) ≡ in_order (record { low = to_z w16 (of_z w16 a); high = to_z w16 (of_z w16 b); start = to_z w16 (of_z w16 c); marked_low = to_z w16 (of_z w16 d); marked_high = to_z w16 (of_z w16 e) })
passed_values a b c d e p q r u v = sym (rw (p, q, r, u, v))

-- a variable's row
module _ (o : Origin) (s : List ℕ) (at : ℕ) where
  pub ruled_read : (v : Variable) → in_order v ≡ true → run (ruled o v) s at ≡ good v at
  unfolding ruled
  ruled_read v yes' = rw yes' (run-done v s at)

  pub ruled_bad : (v : Variable) (i : ℕ) → at ≡ i + 1 → in_order v ≡ false → run (ruled o v) s at ≡ bad (fault_at (Breaks VariableValues) o i)
  unfolding ruled
  ruled_bad v i e no' = rw (no', e) (run-refuse o VariableValues s i)

module _ (s : List ℕ) (at : ℕ) where
  abbrev pub variable_at : List Variable → Scan Variable
  variable_at before = variable_row (row_after Variables before)

  abbrev pub VariablesGoing : ℕ → ℕ → Type 0
  VariablesGoing n k = Going (λ _. Unit {0}) variable_at s (run variables s at) n k (at + 1 + 10 * k)

  pub variables_bad : (o : Origin) (f : Fault) → o ≡ origin Variables 0 → Says (Next at) (Err f) (run (counted o 0 12) s at) → run variables s at ≡ bad f
  unfolding variables
  variables_bad o f is says = byte_bad _ _ s at f (subst (λ x. Says (Next at) (Err f) (run (counted x 0 12) s at)) is says)

  pub variables_begin : (o : Origin) (n : ℕ) → o ≡ origin Variables 0 → Says (Next at) (Ok n) (run (counted o 0 12) s at) → VariablesGoing n 0
  unfolding variables
  variables_begin o n is says =
      going_none variable_at s (λ _. Unit {0}) (run variables s at) n (at + 1 + 10 * 0)
      (byte_read _ _ s at n (subst (λ x. Says (Next at) (Ok n) (run (counted x 0 12) s at)) is says) ∙ ap (λ i. run (collect n variable_at []) s i) (let e : at + 1 ≡ at + 1 + 10 * 0 = omega arith in e)) tt

  pub variable_bad : (n k : ℕ) (o : Origin) (f : Fault) → k < n → o ≡ origin Variables (suc k) → VariablesGoing n k → run (variable_row o) s (at + 1 + 10 * k) ≡ bad f → run variables s at ≡ bad f
  variable_bad n k o f under is g bad' =
      going_bad variable_at s _ _ n k (at + 1 + 10 * k) f under g
      (subst (λ x. run (variable_row x) s (at + 1 + 10 * k) ≡ bad f) (same_row Variables g.before k o g.count is) bad')

  pub variable_read : (n k : ℕ) (o : Origin) (v : Variable) (end : ℕ) → k < n → o ≡ origin Variables (suc k) → VariablesGoing n k → run (variable_row o) s (at + 1 + 10 * k) ≡ good v end → end ≡ at + 1 + 10 * k + 10 → VariablesGoing n (k + 1)
  variable_read n k o v end under is g read e =
      let q : end ≡ at + 1 + 10 * (k + 1) = omega arith in
      going_more variable_at s _ _ _ n k (at + 1 + 10 * k) (at + 1 + 10 * (k + 1)) under g v
      (subst (λ i. run (variable_at g.before) s (at + 1 + 10 * k) ≡ good v i) q
      (subst (λ x. run (variable_row x) s (at + 1 + 10 * k) ≡ good v end) (same_row Variables g.before k o g.count is) read)) tt

-- marks and alphabets
module _ (o : Origin) (s : List ℕ) where
  pub mark_bad : (at : ℕ) (f : Fault) → Says (Next at) (Err f) (run (zero_or_one o) s at) → run (mark o) s at ≡ bad f
  unfolding mark
  mark_bad at f says = byte_bad _ _ s at f says

  abbrev pub MarksGoing : ℕ → ℕ → ℕ → Type 0
  MarksGoing at n k = Going (λ _. Unit {0}) (λ _. mark o) s (run (collect n (λ _. mark o) []) s at) n k (at + k)

  pub mark_read : (at n k b : ℕ) → k < n → MarksGoing at n k → Says (Next (at + k)) (Ok b) (run (zero_or_one o) s (at + k)) → MarksGoing at n (k + 1)
  unfolding mark
  mark_read at n k b under g says =
      let e : at + k + 1 ≡ at + (k + 1) = omega arith in
      going_more (λ _. mark o) s _ _ _ n k (at + k) (at + (k + 1)) under g (mark_of b)
      (byte_read _ _ s (at + k) b says ∙ run-done _ s (at + k + 1) ∙ ap (good (mark_of b)) e) tt

  abbrev pub letter : ℕ → List ℕ → Scan ℕ
  letter m before = rising o m (bound before)

  abbrev pub AlphabetGoing : ℕ → ℕ → ℕ → ℕ → ℕ → Type 0
  AlphabetGoing m at floor n k = Going (λ before. bound before ≡ floor) (letter m) s (run (collect n (letter m) []) s at) n k (at + k)

  pub alphabet_bad : (m at floor n k : ℕ) (f : Fault) → k < n → AlphabetGoing m at floor n k → Says (Next (at + k)) (Err f) (run (rising o m floor) s (at + k)) → run (collect n (letter m) []) s at ≡ bad f
  alphabet_bad m at floor n k f under g says =
      going_bad (letter m) s _ _ n k (at + k) f under g (subst (λ b. run (rising o m b) s (at + k) ≡ bad f) (sym g.holds) says.agree)

  pub alphabet_read : (m at floor n k e : ℕ) → k < n → AlphabetGoing m at floor n k → Says (Next (at + k)) (Ok e) (run (rising o m floor) s (at + k)) → floor ≤ e → AlphabetGoing m at (e + 1) n (k + 1)
  alphabet_read m at floor n k e under g says above =
      let w = says.agree in
      let stop : w.end ≡ at + (k + 1) = omega (arith, w.holds.1) in
      going_more (letter m) s _ (λ before. bound before ≡ e + 1) _ n k (at + k) (at + (k + 1)) under g e
      (subst (λ b. run (rising o m b) s (at + k) ≡ good e (at + (k + 1))) (sym g.holds) (w.is ∙ rw (w.holds.0, stop)))
      (bound-next g.before e (omega (arith, g.holds)))

-- things of a byte each, and what follows them
module _ {A B : Type 0} (p : Scan (List A)) (next : List A → Scan B) (s : List ℕ) (at n : ℕ) where
  pub bytes_bad : (f : Fault) → Says {R = Unit {0}} (λ _ xs end. BytesEach at n xs end) (Err f) (run p s at) → run (and_then p next) s at ≡ bad f
  bytes_bad f says = run-fails p next s at f says.agree

  pub bytes_read : (m : Out B) → Says {R = Unit {0}} (λ _ xs end. BytesEach at n xs end) (Ok tt) (run p s at) → ((xs : List A) → run (next xs) s (at + n) ≡ m) → run (and_then p next) s at ≡ m
  bytes_read m says then' =
      let w = says.agree in
      run-then p next s at w.end w.value w.is ∙ ap (λ i. run (next w.value) s i) w.holds.1 ∙ then' w.value

  pub bytes_pass : {R : Type 0} (K : R → B → ℕ → Type 0) (r : Result R Fault) → Says {R = Unit {0}} (λ _ xs end. BytesEach at n xs end) (Ok tt) (run p s at) → ((xs : List A) → Says K r (run (next xs) s (at + n))) → Says K r (run (and_then p next) s at)
  bytes_pass K r says then' =
      let w = says.agree in
      says_by K _ r _ (run-then p next s at w.end w.value w.is ∙ ap (λ i. run (next w.value) s i) w.holds.1) (then' w.value)
