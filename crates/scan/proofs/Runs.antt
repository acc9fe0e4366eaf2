-- What a scanner says, step by step.
use Rattle.std.proofs.Common.{◌≡◌, ℕ, ◌+◌, ◌<◌, ◌≤◌, Bool, true, false, ltb, List, length, get_or, Ok, Err, Result, sym, refl, ap, ◌∙◌, inl, inr, arith}
use Rattle.std.specs.Result.{IsErrAnd}
use Rattle.std.proofs.lemmas.Result.{err_from_is_err_and}
use Rattle.std.proofs.lemmas.Bool.{lt-ltb, le-ltb, cond-true, cond-false, cases_Bool}
use Rattle.scan.specs.declared.refusal.Origin.{Origin}
use Rattle.scan.specs.declared.refusal.Fault.{Fault}
use Rattle.scan.specs.declared.refusal.FileFault.TheVariants.{EndsTooSoon, Breaks}
use Rattle.scan.specs.declared.refusal.FileRule.{FileRule}
use Rattle.scan.specs.Faults.{fault_at}
use Rattle.scan.specs.Scan.{Scan, done, refuse, ask, and_then, Out, good, bad, run, tested}
use Rattle.scan.specs.Says.{Says, Next}

pub run-done : {A : Type 0} (a : A) (s : List ℕ) (at : ℕ) → run (done a) s at ≡ good a at
unfolding run
run-done a s at = refl

pub run-refuse : {A : Type 0} (o : Origin) (rule : FileRule) (s : List ℕ) (at : ℕ) → run {A = A} (refuse o rule) s (at + 1) ≡ bad (fault_at (Breaks rule) o at)
unfolding run
run-refuse o rule s at = ap (λ n. bad (fault_at (Breaks rule) o n)) (omega arith)

pub run-ask : {A : Type 0} (o : Origin) (go : ℕ → Scan A) (s : List ℕ) (at : ℕ) → at < length s → run (ask o go) s at ≡ run (go (get_or s at 0)) s (at + 1)
unfolding run
run-ask o go s at under = cond-true _ _ _ (lt-ltb at (length s) under)

pub run_short : {A : Type 0} (o : Origin) (go : ℕ → Scan A) (s : List ℕ) (at : ℕ) → length s ≤ at → run (ask o go) s at ≡ bad (fault_at EndsTooSoon o at)
unfolding run
run_short o go s at past = cond-false _ _ _ (le-ltb at (length s) past)

-- the same, by what `byte_at` ensures
pub ask_goes : {A : Type 0} (o : Origin) (go : ℕ → Scan A) (s : List ℕ) (at b : ℕ) → (at < length s) × (b ≡ get_or s at 0) → run (ask o go) s at ≡ run (go b) s (at + 1)
ask_goes o go s at b h = run-ask o go s at h.0 ∙ ap (λ x. run (go x) s (at + 1)) (sym h.1)

pub ask_ends : {A : Type 0} (o : Origin) (go : ℕ → Scan A) (s : List ℕ) (at : ℕ) (f : Fault) → (length s ≤ at) × (f ≡ fault_at EndsTooSoon o at) → run (ask o go) s at ≡ bad f
ask_ends o go s at f h = run_short o go s at h.0 ∙ ap bad (sym h.1)

-- an answer from what the scanner says
module _ {A R : Type 0} (K : R → A → ℕ → Type 0) (m : Out A) where
  pub answers : (v : R) (a : A) (end : ℕ) → m ≡ good a end → K v a end → Says K (Ok v) m
  answers v a end is holds = record { agree = record { value = a; end = end; is = is; holds = holds } }

  pub says_by : (r : Result R Fault) (l : Out A) → m ≡ l → Says K r l → Says K r m
  says_by r l e says = rw e says

  pub refuses : (r : Result R Fault) (f g : Fault) → r ≡ Err f → f ≡ g → m ≡ bad g → Says K r m
  refuses r f g p q is = rw (p, q) (record { agree = is })

  -- a refusal that `?` passes on
  pub passed_on : (r : Result R Fault) (f : Fault) → IsErrAnd r (λ g. g ≡ f) → m ≡ bad f → Says K r m
  passed_on r f e is = let p = err_from_is_err_and r e in refuses r p.0 f p.1 p.2 is

-- one scanner and then another
abbrev pub after : {A B : Type 0} → Out A → (A → ℕ → Out B) → Out B
after (good a end) next = next a end
after (bad f) next = bad f

pub run-after : {A B : Type 0} (p : Scan A) (next : A → Scan B) (s : List ℕ) (at : ℕ) → run (and_then p next) s at ≡ after (run p s at) (λ a end. run (next a) s end)
unfolding run and_then
run-after (done x) next s at = refl
run-after (refuse o rule) next s at = refl
run-after {B = B} (ask o go) next s at =
    elim (cases_Bool (ltb at (length s))) [
      | inl here ↦ rw here (run-after (go (get_or s at 0)) next s (at + 1))
      | inr past ↦ rw past
    ]

pub run-then : {A B : Type 0} (p : Scan A) (next : A → Scan B) (s : List ℕ) (at end : ℕ) (a : A) → run p s at ≡ good a end → run (and_then p next) s at ≡ run (next a) s end
run-then p next s at end a is = run-after p next s at ∙ ap (λ m. after m (λ b e. run (next b) s e)) is

pub run-fails : {A B : Type 0} (p : Scan A) (next : A → Scan B) (s : List ℕ) (at : ℕ) (f : Fault) → run p s at ≡ bad f → run (and_then p next) s at ≡ bad f
run-fails p next s at f is = run-after p next s at ∙ ap (λ m. after m (λ b e. run (next b) s e)) is

pub run-assoc : {A B C : Type 0} (p : Scan A) (q : A → Scan B) (r : B → Scan C) (s : List ℕ) (at : ℕ) → run (and_then p (λ a. and_then (q a) r)) s at ≡ run (and_then (and_then p q) r) s at
unfolding run and_then
run-assoc (done x) q r s at = refl
run-assoc (refuse o rule) q r s at = refl
run-assoc (ask o go) q r s at =
    elim (cases_Bool (ltb at (length s))) [
      | inl here ↦ rw here (run-assoc (go (get_or s at 0)) q r s (at + 1))
      | inr past ↦ rw past
    ]

-- the first part refuses, or reads the value that the code has
module _ {A B R : Type 0} (p : Scan A) (next : A → Scan B) (s : List ℕ) (at : ℕ) where
  pub then_bad : (K : R → A → ℕ → Type 0) (f : Fault) → Says K (Err f) (run p s at) → run (and_then p next) s at ≡ bad f
  then_bad K f says = run-fails p next s at f says.agree

  pub then_read : (K : R → A → ℕ → Type 0) (v : R) (a : A) (end : ℕ) → ((x : A) (e : ℕ) → K v x e → (x ≡ a) × (e ≡ end)) → Says K (Ok v) (run p s at) → run (and_then p next) s at ≡ run (next a) s end
  then_read K v a end same says =
      let w = says.agree in
      let h = same w.value w.end w.holds in
      run-then p next s at w.end w.value w.is ∙ rw (h.0, h.1)

-- after one byte
module _ {B : Type 0} (p : Scan ℕ) (next : ℕ → Scan B) (s : List ℕ) (at : ℕ) where
  pub byte_bad : (f : Fault) → Says (Next at) (Err f) (run p s at) → run (and_then p next) s at ≡ bad f
  byte_bad f says = then_bad p next s at (Next at) f says

  pub byte_read : (b : ℕ) → Says (Next at) (Ok b) (run p s at) → run (and_then p next) s at ≡ run (next b) s (at + 1)
  byte_read b says = then_read p next s at (Next at) b b (at + 1) (λ x e h. h) says

  -- to the place that the code has next
  pub byte_then : (b end : ℕ) → end ≡ at + 1 → Says (Next at) (Ok b) (run p s at) → run (and_then p next) s at ≡ run (next b) s end
  byte_then b end e says = byte_read b says ∙ ap (λ i. run (next b) s i) (sym e)

-- a byte that is tested
module _ (o : Origin) (rule : FileRule) (test : ℕ → Bool) (s : List ℕ) (at : ℕ) where
  pub test_ends : (f : Fault) → (length s ≤ at) × (f ≡ fault_at EndsTooSoon o at) → Says (Next at) (Err f) (run (tested o rule test) s at)
  unfolding tested
  test_ends f h = record { agree = ask_ends o _ s at f h }

  pub test_passes : (b : ℕ) → (at < length s) × (b ≡ get_or s at 0) → test b ≡ true → Says (Next at) (Ok b) (run (tested o rule test) s at)
  unfolding tested
  test_passes b h yes' =
      answers (Next at) _ b b (at + 1) (ask_goes o _ s at b h ∙ rw yes' (run-done b s (at + 1))) (refl, refl)

  pub test_fails : (b : ℕ) (f : Fault) → (at < length s) × (b ≡ get_or s at 0) → test b ≡ false → f ≡ fault_at (Breaks rule) o at → Says (Next at) (Err f) (run (tested o rule test) s at)
  unfolding tested
  test_fails b f h no' fault =
      refuses (Next at) _ (Err f) f (fault_at (Breaks rule) o at) refl fault (ask_goes o _ s at b h ∙ rw no' (run-refuse o rule s at))
