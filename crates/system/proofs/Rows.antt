-- What the scanner of the transitions says, from what it says of their parts.
use Rattle.std.proofs.Common.{◌≡◌, ℕ, suc, ◌+◌, ◌-◌, ◌<◌, ◌≤◌, leb, List, [], ◌∷◌, ◌++◌, map, length, get_or, Ok, Err, Result, sym, refl, ap, ◌∙◌, subst, arith}
use Rattle.std.proofs.lemmas.List.{map_push}
use Rattle.std.proofs.lemmas.Bool.{le-leb, lt-leb}
use Rattle.std.proofs.lemmas.Bool.Decides.{nat_tests}
use Rattle.scan.specs.declared.refusal.Origin.{Origin}
use Rattle.scan.specs.declared.refusal.Section.TheVariants.{Transitions}
use Rattle.scan.specs.declared.refusal.Fault.{Fault}
use Rattle.scan.specs.declared.refusal.FileFault.TheVariants.{Breaks}
use Rattle.scan.specs.declared.refusal.FileRule.TheVariants.{CountLimits}
use Rattle.scan.specs.Faults.{fault_at}
use Rattle.scan.specs.Scan.{Scan, done, and_then, good, bad, run, numbered, pair, collect}
use Rattle.scan.specs.Says.{Says, Next}
use Rattle.scan.proofs.Runs.{run-done, run-refuse, run-assoc, run-then, run-fails, byte_bad, byte_read, byte_then, then_bad, then_read, answers, says_by}
use Rattle.scan.proofs.Loops.{Going, going_none, going_more, going_bad}
use Rattle.expr.specs.Expr.{guard}
use Rattle.expr.specs.Scan.{sized}
use Rattle.expr.specs.Ends.{At}
use Rattle.system.specs.System.{Automaton, Row, idle}
use Rattle.system.specs.Scan.{origin, row_after, bound, owner, rising, event_in, updates, transition, transition_row, few_rows, transitions}
use Rattle.system.proofs.Sections.{same_row, bound-same}

abbrev pub count_origin : Origin
count_origin = origin Transitions 0

abbrev pub row_count : Scan ℕ
row_count = and_then (pair count_origin) (few_rows count_origin)

-- the count of two bytes
module _ (s : List ℕ) (at : ℕ) where
  pub count_bad : (o : Origin) (f : Fault) → o ≡ count_origin → Says (Next (at + 1)) (Err f) (run (pair o) s at) → run row_count s at ≡ bad f
  count_bad o f is says = then_bad (pair count_origin) _ s at (Next (at + 1)) f (subst (λ x. Says (Next (at + 1)) (Err f) (run (pair x) s at)) is says)

  counted : (o : Origin) (n : ℕ) → o ≡ count_origin → Says (Next (at + 1)) (Ok n) (run (pair o) s at) → run row_count s at ≡ run (few_rows count_origin n) s (at + 1 + 1)
  counted o n is says = then_read (pair count_origin) (few_rows count_origin) s at (Next (at + 1)) n n (at + 1 + 1) (λ x e h. h) (subst (λ x. Says (Next (at + 1)) (Ok n) (run (pair x) s at)) is says)

  pub count_read : (o : Origin) (n : ℕ) → o ≡ count_origin → Says (Next (at + 1)) (Ok n) (run (pair o) s at) → n ≤ 512 → Says (Next (at + 1)) (Ok n) (run row_count s at)
  unfolding few_rows
  count_read o n is says few = answers (Next (at + 1)) _ n n (at + 1 + 1) (counted o n is says ∙ rw (le-leb n 512 few) (run-done n s (at + 1 + 1))) (refl, refl)

  pub count_over : (o : Origin) (n : ℕ) (f : Fault) → o ≡ count_origin → Says (Next (at + 1)) (Ok n) (run (pair o) s at) → 512 < n → f ≡ fault_at (Breaks CountLimits) o (at + 1) → run row_count s at ≡ bad f
  unfolding few_rows
  count_over o n f is says many fault =
      counted o n is says ∙ rw (lt-leb n 512 many) (run-refuse count_origin CountLimits s (at + 1)) ∙ ap bad (sym (fault ∙ ap (λ x. fault_at (Breaks CountLimits) x (at + 1)) is))

-- what is made of the last part ends where it does
pub ended : {A B : Type 0} (p : Scan A) (make : A → B) (s : List ℕ) (at : ℕ) (r : Result ℕ Fault) → Says (λ stop a end. stop ≡ end) r (run p s at) → Says (λ stop b end. stop ≡ end) r (run (and_then p (λ a. done (make a))) s at)
ended p make s at (Ok stop) says =
    let w = says.agree in
    answers _ _ stop (make w.value) w.end (run-then p _ s at w.end w.value w.is ∙ run-done _ s w.end) w.holds
ended p make s at (Err f) says = record { agree = run-fails p _ s at f says.agree }

-- a transition of an automaton that has that many locations
module _ (o : Origin) (n m : ℕ) (A : Automaton) (locations : ℕ) (long : locations ≡ length A.marks) (s : List ℕ) (at : ℕ) where
  same : {R : Type 0} {K : R → ℕ → ℕ → Type 0} {r : Result R Fault} (i : ℕ) → Says K r (run (numbered o locations) s i) → Says K r (run (numbered o (length A.marks)) s i)
  same {K = K} {r} i says = subst (λ x. Says K r (run (numbered o x) s i)) long says

  pub from_bad : (f : Fault) → Says (Next at) (Err f) (run (numbered o locations) s at) → run (transition o n m A) s at ≡ bad f
  unfolding transition
  from_bad f says = byte_bad _ _ s at f (same at says)

  pub event_bad : (x : ℕ) (f : Fault) → Says (Next at) (Ok x) (run (numbered o locations) s at) → Says (Next (at + 1)) (Err f) (run (event_in o n A.alphabet) s (at + 1)) → run (transition o n m A) s at ≡ bad f
  unfolding transition
  event_bad x f first second = byte_read _ _ s at x (same at first) ∙ byte_bad _ _ s (at + 1) f second

  pub to_bad : (x e : ℕ) (f : Fault) → Says (Next at) (Ok x) (run (numbered o locations) s at) → Says (Next (at + 1)) (Ok e) (run (event_in o n A.alphabet) s (at + 1)) → Says (Next (at + 2)) (Err f) (run (numbered o locations) s (at + 2)) → run (transition o n m A) s at ≡ bad f
  unfolding transition
  to_bad x e f first second third =
      byte_read _ _ s at x (same at first) ∙ byte_then _ _ s (at + 1) e (at + 2) (omega arith) second ∙ byte_bad _ _ s (at + 2) f (same (at + 2) third)

  pub guard_bad : (x e y : ℕ) (f : Fault) → Says (Next at) (Ok x) (run (numbered o locations) s at) → Says (Next (at + 1)) (Ok e) (run (event_in o n A.alphabet) s (at + 1)) → Says (Next (at + 2)) (Ok y) (run (numbered o locations) s (at + 2)) → Says At (Err f) (run (sized m o guard) s (at + 3)) → run (transition o n m A) s at ≡ bad f
  unfolding transition
  guard_bad x e y f first second third fourth =
      byte_read _ _ s at x (same at first) ∙ byte_then _ _ s (at + 1) e (at + 2) (omega arith) second ∙ byte_then _ _ s (at + 2) y (at + 3) (omega arith) (same (at + 2) third)
      ∙ run-fails _ _ s (at + 3) f fourth.agree

  pub transition_read : (x e y next : ℕ) (r : Result ℕ Fault) → Says (Next at) (Ok x) (run (numbered o locations) s at) → Says (Next (at + 1)) (Ok e) (run (event_in o n A.alphabet) s (at + 1)) → Says (Next (at + 2)) (Ok y) (run (numbered o locations) s (at + 2)) → Says At (Ok next) (run (sized m o guard) s (at + 3)) → Says (λ stop us end. stop ≡ end) r (run (updates o m) s next) → Says (λ stop t end. stop ≡ end) r (run (transition o n m A) s at)
  unfolding transition
  transition_read x e y next r first second third fourth fifth =
      let w = fourth.agree in
      let read : run (sized m o guard) s (at + 3) ≡ good w.value next = w.is ∙ ap (good w.value) (sym w.holds) in
      says_by _ _ r _
      (byte_read _ _ s at x (same at first) ∙ byte_then _ _ s (at + 1) e (at + 2) (omega arith) second ∙ byte_then _ _ s (at + 2) y (at + 3) (omega arith) (same (at + 2) third)
      ∙ run-then _ _ s (at + 3) next w.value read)
      (ended (updates o m) (λ us. record { from = x; event = e; to = y; guard = w.value; updates = us }) s next r fifth)

-- the number of an automaton by the least that it may be, where the code counts as many automata
pub owner_of : (o : Origin) (above floor : ℕ) (s : List ℕ) (at : ℕ) (count long : ℕ) → count ≡ long → above - 1 ≡ floor → {r : Result ℕ Fault} → Says (Next at) r (run (rising o count floor) s at) → Says (Next at) r (run (owner o long above) s at)
unfolding owner rising run
owner_of o above floor s at count long e d {r} says =
    let x = get_or s at 0 in
    let same-test : leb above (suc x) ≡ leb floor x = grind (arith, nat_tests) in
    says_by (Next at) _ r _ (rw (← e, same-test)) says

-- rows one after another
abbrev pub owners_of : List Row → List ℕ
owners_of rs = map (λ r. r.owner) rs

module _ (n m : ℕ) (As : List Automaton) (s : List ℕ) (at : ℕ) where
  abbrev pub row_at : List Row → Scan Row
  row_at before = transition_row (row_after Transitions before) n m As (bound (owners_of before))

  abbrev pub RowsGoing : ℕ → ℕ → ℕ → ℕ → Type 0
  RowsGoing floor count k end = Going (λ before. bound (owners_of before) - 1 ≡ floor) row_at s (run (transitions n m As) s at) count k end

  split : run (transitions n m As) s at ≡ run (and_then row_count (λ k. collect k row_at [])) s at
  unfolding transitions
  split = run-assoc (pair count_origin) (few_rows count_origin) (λ k. collect k row_at []) s at

  pub rows_bad : (f : Fault) → Says (Next (at + 1)) (Err f) (run row_count s at) → run (transitions n m As) s at ≡ bad f
  rows_bad f says = split ∙ then_bad row_count _ s at (Next (at + 1)) f says

  pub rows_begin : (count : ℕ) → Says (Next (at + 1)) (Ok count) (run row_count s at) → RowsGoing 0 count 0 (at + 2)
  rows_begin count says =
      let e : at + 2 ≡ at + 1 + 1 = omega arith in
      going_none row_at s (λ before. bound (owners_of before) - 1 ≡ 0) (run (transitions n m As) s at) count (at + 2)
      (split ∙ then_read row_count (λ k. collect k row_at []) s at (Next (at + 1)) count count (at + 2) (λ x i h. (h.0, h.1 ∙ sym e)) says) refl

  -- the row that the code reads
  module _ (floor count k end : ℕ) (o : Origin) (under : k < count) (is : o ≡ origin Transitions (suc k)) (automata : ℕ) (long : automata ≡ length As) (g : RowsGoing floor count k end) where
    here : row_at g.before ≡ transition_row o n m As (bound (owners_of g.before))
    here = rw (← (same_row Transitions g.before k o g.count is))

    pub owner_bad : (f : Fault) → Says (Next end) (Err f) (run (rising o automata floor) s end) → run (transitions n m As) s at ≡ bad f
    unfolding transition_row
    owner_bad f says =
        going_bad row_at s _ _ count k end f under g (ap (λ p. run p s end) here ∙ byte_bad _ _ s end f (owner_of o _ floor s end automata _ long g.holds says))

    pub row_bad : (j : ℕ) (f : Fault) → Says (Next end) (Ok j) (run (rising o automata floor) s end) → run (transition o n m (get_or As j idle)) s (end + 1) ≡ bad f → run (transitions n m As) s at ≡ bad f
    unfolding transition_row
    row_bad j f first bad' =
        going_bad row_at s _ _ count k end f under g
        (ap (λ p. run p s end) here ∙ byte_read _ _ s end j (owner_of o _ floor s end automata _ long g.holds first) ∙ run-fails _ _ s (end + 1) f bad')

    pub row_read : (j stop : ℕ) → Says (Next end) (Ok j) (run (rising o automata floor) s end) → floor ≤ j → Says (λ x t e. x ≡ e) (Ok stop) (run (transition o n m (get_or As j idle)) s (end + 1)) → RowsGoing j count (k + 1) stop
    unfolding transition_row
    row_read j stop first low second =
        let w = second.agree in
        let r : Row = record { owner = j; transition = w.value } in
        let read : run (transition o n m (get_or As j idle)) s (end + 1) ≡ good w.value stop = w.is ∙ ap (good w.value) (sym w.holds) in
        let e : bound (owners_of g.before) - 1 ≡ floor = g.holds in
        let next : bound (owners_of (g.before ++ r ∷ [])) ≡ j + 1 = ap bound (map_push (λ x. x.owner) g.before r) ∙ bound-same (owners_of g.before) j (omega arith) in
        going_more row_at s _ (λ before. bound (owners_of before) - 1 ≡ j) _ count k end stop under g r
        (ap (λ p. run p s end) here ∙ byte_read _ _ s end j (owner_of o _ floor s end automata _ long g.holds first) ∙ run-then _ _ s (end + 1) stop w.value read ∙ run-done r s stop)
        (omega arith)
