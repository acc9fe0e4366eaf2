-- What the scanner of an expression says, from what it says of the parts.
use Rattle.std.proofs.Common.{Option, Some, None, ◌≡◌, ℕ, zero, suc, ◌+◌, ◌-◌, ◌<◌, ◌≤◌, Bool, List, length, get_or, Ok, Err, Result, sym, refl, ap, ◌∙◌, subst, inl, inr, arith}
use Rattle.std.proofs.lemmas.Bool.{lt-ltb, le-ltb}
use Rattle.scan.specs.declared.refusal.Origin.{Origin}
use Rattle.scan.specs.declared.refusal.Fault.{Fault}
use Rattle.scan.specs.declared.refusal.FileFault.TheVariants.{Breaks}
use Rattle.scan.specs.declared.refusal.FileRule.TheVariants.{KnownNumber, Expression}
use Rattle.scan.specs.Faults.{fault_at}
use Rattle.scan.specs.Scan.{Scan, and_then, Out, bad, run}
use Rattle.scan.specs.Says.{Says}
use Rattle.scan.proofs.Runs.{run-done, run-refuse, ask_goes, ask_ends, run-then, run-fails, answers, says_by}
use Rattle.expr.specs.declared.code.Joint.{Joint}
use Rattle.expr.specs.declared.code.Order.{Order}
use Rattle.expr.specs.declared.code.Sign.{Sign}
use Rattle.expr.specs.declared.code.GuardCode.{GuardCode}
use Rattle.expr.specs.declared.code.TermCode.{TermCode}
use Rattle.expr.specs.declared.code.GuardCode.TheVariants as G
use Rattle.expr.specs.declared.code.TermCode.TheVariants as K
use Rattle.expr.specs.Codes.{guard_code, term_code}
use Rattle.expr.specs.Expr.{Kind, guard, term, Expr, negate, join, test, variable, sum, branch}
use Rattle.expr.specs.Scan.{Part, next_byte, Reader, one, two, guard_by, term_by, parse}
use Rattle.expr.specs.Ends.{Stops, Until}

module _ (n : ℕ) (o : Origin) (s : List ℕ) where
  -- a byte, or none
  pub next_goes : {A : Type 0} (at end b : ℕ) (go : ℕ → ℕ → Scan A) → (at < end) × (at < length s) × (b ≡ get_or s at 0) → run (next_byte n o (end - at) go) s at ≡ run (go b (end - (at + 1))) s (at + 1)
  unfolding next_byte
  next_goes at end b go h = more (end - at) (omega (arith, h.0))
    where
      more : (left : ℕ) → left ≡ suc (end - (at + 1)) → run (next_byte n o left go) s at ≡ run (go b (end - (at + 1))) s (at + 1)
      more zero e = absurd (let z : ⊥ = omega arith in z)
      more (suc left) e =
          let q : left ≡ end - (at + 1) = omega arith in
          ask_goes o (λ x. go x left) s at b (h.1, h.2) ∙ ap (λ k. run (go b k) s (at + 1)) q

  pub next_stops : {A : Type 0} (at end : ℕ) (f : Fault) (go : ℕ → ℕ → Scan A) → 0 < at → Stops s o at end f → run (next_byte n o (end - at) go) s at ≡ bad f
  unfolding next_byte run
  next_stops at end f go some (inl h) = used (end - at) (omega (arith, h.0))
    where
      used : (left : ℕ) → left ≡ 0 → run (next_byte n o left go) s at ≡ bad f
      used zero e = ap bad (sym h.1)
      used (suc left) e = absurd (let z : ⊥ = omega arith in z)
  next_stops at end f go some (inr h) = missing (end - at) (omega (arith, h.0))
    where
      missing : (left : ℕ) → 0 < left → run (next_byte n o left go) s at ≡ bad f
      missing zero e = absurd (let z : ⊥ = omega arith in z)
      missing (suc left) e = ask_ends o (λ x. go x left) s at f (h.1, h.2)

  -- a parser's step at a byte
  pub at_none : (k : Kind) (d at end b : ℕ) → d ≡ 0 → (at < end) × (at < length s) × (b ≡ get_or s at 0) → run (parse n o d k (end - at)) s at ≡ bad (fault_at (Breaks Expression) o at)
  unfolding parse
  at_none k zero at end b e h = next_goes at end b _ h ∙ run-refuse o Expression s at
  at_none k (suc d) at end b e h = absurd (let z : ⊥ = omega arith in z)

  pub at_guard : (d at end b : ℕ) (code : Option GuardCode) → (d ≡ 0 → ⊥) → (at < end) × (at < length s) × (b ≡ get_or s at 0) → code ≡ guard_code b → run (parse n o d guard (end - at)) s at ≡ run (guard_by n o (parse n o (d - 1)) (end - (at + 1)) code) s (at + 1)
  unfolding parse
  at_guard zero at end b code some h is = absurd (some refl)
  at_guard (suc d) at end b code some h is =
      let e : d ≡ suc d - 1 = omega arith in
      next_goes at end b _ h ∙ ap (λ x. run (guard_by n o (parse n o d) (end - (at + 1)) x) s (at + 1)) (sym is)
      ∙ ap (λ x. run (guard_by n o (parse n o x) (end - (at + 1)) code) s (at + 1)) e

  pub at_term : (d at end b : ℕ) (code : Option TermCode) → (d ≡ 0 → ⊥) → (at < end) × (at < length s) × (b ≡ get_or s at 0) → code ≡ term_code b → run (parse n o d term (end - at)) s at ≡ run (term_by n o (parse n o (d - 1)) (end - (at + 1)) code) s (at + 1)
  unfolding parse
  at_term zero at end b code some h is = absurd (some refl)
  at_term (suc d) at end b code some h is =
      let e : d ≡ suc d - 1 = omega arith in
      next_goes at end b _ h ∙ ap (λ x. run (term_by n o (parse n o d) (end - (at + 1)) x) s (at + 1)) (sym is)
      ∙ ap (λ x. run (term_by n o (parse n o x) (end - (at + 1)) code) s (at + 1)) e

  pub no_byte : (k : Kind) (d at end : ℕ) (f : Fault) → 0 < at → Stops s o at end f → run (parse n o d k (end - at)) s at ≡ bad f
  unfolding parse
  no_byte k zero at end f some h = next_stops at end f _ some h
  no_byte guard (suc d) at end f some h = next_stops at end f _ some h
  no_byte term (suc d) at end f some h = next_stops at end f _ some h

  -- a first part that is read, and a last one
  module _ (read : Reader n o) where
    pub first_read : {B : Type 0} (j : Kind) (at end stop : ℕ) (next : Part j → Scan B) (m : Out B) → Says (Until end) (Ok stop) (run (read j (end - at)) s at) → ((a : Part j) → a.left ≡ end - stop → run (next a) s stop ≡ m) → run (and_then (read j (end - at)) next) s at ≡ m
    first_read j at end stop next m says then' =
        let w = says.agree in
        let e : w.end ≡ stop = sym w.holds.0 in
        run-then (read j (end - at)) next s at w.end w.value w.is
        ∙ ap (λ k. run (next w.value) s k) e ∙ then' w.value (w.holds.1 ∙ ap (λ k. end - k) e)

    pub first_part : {k : Kind} (j : Kind) (at end stop : ℕ) (next : Part j → Scan (Part k)) (r : Result ℕ Fault) → Says (Until end) (Ok stop) (run (read j (end - at)) s at) → ((a : Part j) → a.left ≡ end - stop → Says (Until end) r (run (next a) s stop)) → Says (Until end) r (run (and_then (read j (end - at)) next) s at)
    first_part j at end stop next r says then' =
        let w = says.agree in
        let e : w.end ≡ stop = sym w.holds.0 in
        says_by (Until end) _ r _ (run-then (read j (end - at)) next s at w.end w.value w.is ∙ ap (λ k. run (next w.value) s k) e)
        (then' w.value (w.holds.1 ∙ ap (λ k. end - k) e))

    pub last_bad : (j : Kind) {k : Kind} (at end left : ℕ) (make : Expr j → Expr k) (f : Fault) → left ≡ end - at → run (read j (end - at)) s at ≡ bad f → run (one n o read j left make) s at ≡ bad f
    last_bad j at end left make f e is =
        ap (λ l. run (one n o read j l make) s at) e ∙ run-fails (read j (end - at)) _ s at f is

    pub last_read : (j : Kind) {k : Kind} (at end left : ℕ) (make : Expr j → Expr k) (r : Result ℕ Fault) → left ≡ end - at → Says (Until end) r (run (read j (end - at)) s at) → Says (Until end) r (run (one n o read j left make) s at)
    last_read j at end left make (Err f) e says = record { agree = last_bad j at end left make f e says.agree }
    last_read j {k} at end left make (Ok stop) e says =
        let w = says.agree in
        answers (Until end) _ stop (record { expr = make w.value.expr; left = w.value.left }) w.end
        (ap (λ l. run (one n o read j l make) s at) e ∙ run-then (read j (end - at)) _ s at w.end w.value w.is ∙ run-done _ s w.end) w.holds

-- an operator and its parts, where a byte stands at the place and the depth is not used up
module _ (n : ℕ) (o : Origin) (s : List ℕ) (d at end b : ℕ) (some : d ≡ 0 → ⊥) (byte : (at < end) × (at < length s) × (b ≡ get_or s at 0)) where
  pub truth_read : (v : Bool) → Some (G.Truth v) ≡ guard_code b → Says (Until end) (Ok (at + 1)) (run (parse n o d guard (end - at)) s at)
  unfolding guard_by
  truth_read v is = says_by (Until end) _ _ _ (at_guard n o s d at end b _ some byte is) (answers (Until end) _ (at + 1) _ (at + 1) (run-done _ s (at + 1)) (refl, refl))

  pub unknown_guard : None ≡ guard_code b → run (parse n o d guard (end - at)) s at ≡ bad (fault_at (Breaks Expression) o at)
  unfolding guard_by
  unknown_guard is = at_guard n o s d at end b _ some byte is ∙ run-refuse o Expression s at

  pub unknown_term : None ≡ term_code b → run (parse n o d term (end - at)) s at ≡ bad (fault_at (Breaks Expression) o at)
  unfolding term_by
  unknown_term is = at_term n o s d at end b _ some byte is ∙ run-refuse o Expression s at

  pub not_read : (r : Result ℕ Fault) → Some G.Not ≡ guard_code b → Says (Until end) r (run (parse n o (d - 1) guard (end - (at + 1))) s (at + 1)) → Says (Until end) r (run (parse n o d guard (end - at)) s at)
  unfolding guard_by
  not_read r is says = says_by (Until end) _ r _ (at_guard n o s d at end b _ some byte is) (last_read n o s (parse n o (d - 1)) guard (at + 1) end _ negate r refl says)

  pub join_bad : (j : Joint) (f : Fault) → Some (G.Join j) ≡ guard_code b → Says (Until end) (Err f) (run (parse n o (d - 1) guard (end - (at + 1))) s (at + 1)) → run (parse n o d guard (end - at)) s at ≡ bad f
  unfolding guard_by
  join_bad j f is says = at_guard n o s d at end b _ some byte is ∙ run-fails (parse n o (d - 1) guard (end - (at + 1))) _ s (at + 1) f says.agree

  pub join_read : (j : Joint) (next : ℕ) (r : Result ℕ Fault) → Some (G.Join j) ≡ guard_code b → Says (Until end) (Ok next) (run (parse n o (d - 1) guard (end - (at + 1))) s (at + 1)) → Says (Until end) r (run (parse n o (d - 1) guard (end - next)) s next) → Says (Until end) r (run (parse n o d guard (end - at)) s at)
  unfolding guard_by
  join_read j next r is first last =
      says_by (Until end) _ r _ (at_guard n o s d at end b _ some byte is)
      (first_part n o s (parse n o (d - 1)) guard (at + 1) end next _ r first
      (λ a left. last_read n o s (parse n o (d - 1)) guard next end a.left (join j a.expr) r left last))

  pub test_bad : (q : Order) (f : Fault) → Some (G.Test q) ≡ guard_code b → Says (Until end) (Err f) (run (parse n o (d - 1) term (end - (at + 1))) s (at + 1)) → run (parse n o d guard (end - at)) s at ≡ bad f
  unfolding guard_by
  test_bad q f is says = at_guard n o s d at end b _ some byte is ∙ run-fails (parse n o (d - 1) term (end - (at + 1))) _ s (at + 1) f says.agree

  pub test_read : (q : Order) (next : ℕ) (r : Result ℕ Fault) → Some (G.Test q) ≡ guard_code b → Says (Until end) (Ok next) (run (parse n o (d - 1) term (end - (at + 1))) s (at + 1)) → Says (Until end) r (run (parse n o (d - 1) term (end - next)) s next) → Says (Until end) r (run (parse n o d guard (end - at)) s at)
  unfolding guard_by
  test_read q next r is first last =
      says_by (Until end) _ r _ (at_guard n o s d at end b _ some byte is)
      (first_part n o s (parse n o (d - 1)) term (at + 1) end next _ r first
      (λ a left. last_read n o s (parse n o (d - 1)) term next end a.left (test q a.expr) r left last))

  pub sum_bad : (q : Sign) (f : Fault) → Some (K.Sum q) ≡ term_code b → Says (Until end) (Err f) (run (parse n o (d - 1) term (end - (at + 1))) s (at + 1)) → run (parse n o d term (end - at)) s at ≡ bad f
  unfolding term_by
  sum_bad q f is says = at_term n o s d at end b _ some byte is ∙ run-fails (parse n o (d - 1) term (end - (at + 1))) _ s (at + 1) f says.agree

  pub sum_read : (q : Sign) (next : ℕ) (r : Result ℕ Fault) → Some (K.Sum q) ≡ term_code b → Says (Until end) (Ok next) (run (parse n o (d - 1) term (end - (at + 1))) s (at + 1)) → Says (Until end) r (run (parse n o (d - 1) term (end - next)) s next) → Says (Until end) r (run (parse n o d term (end - at)) s at)
  unfolding term_by
  sum_read q next r is first last =
      says_by (Until end) _ r _ (at_term n o s d at end b _ some byte is)
      (first_part n o s (parse n o (d - 1)) term (at + 1) end next _ r first
      (λ a left. last_read n o s (parse n o (d - 1)) term next end a.left (sum q a.expr) r left last))

  pub case_bad : (f : Fault) → Some K.Case ≡ term_code b → Says (Until end) (Err f) (run (parse n o (d - 1) guard (end - (at + 1))) s (at + 1)) → run (parse n o d term (end - at)) s at ≡ bad f
  unfolding term_by
  case_bad f is says = at_term n o s d at end b _ some byte is ∙ run-fails (parse n o (d - 1) guard (end - (at + 1))) _ s (at + 1) f says.agree

  pub case_then_bad : (next : ℕ) (f : Fault) → Some K.Case ≡ term_code b → Says (Until end) (Ok next) (run (parse n o (d - 1) guard (end - (at + 1))) s (at + 1)) → Says (Until end) (Err f) (run (parse n o (d - 1) term (end - next)) s next) → run (parse n o d term (end - at)) s at ≡ bad f
  unfolding term_by
  case_then_bad next f is first second =
      at_term n o s d at end b _ some byte is
      ∙ first_read n o s (parse n o (d - 1)) guard (at + 1) end next _ (bad f) first
      (λ g left. ap (λ l. run (two n o (parse n o (d - 1)) term l (branch g.expr)) s next) left ∙ run-fails (parse n o (d - 1) term (end - next)) _ s next f second.agree)

  pub case_read : (next last : ℕ) (r : Result ℕ Fault) → Some K.Case ≡ term_code b → Says (Until end) (Ok next) (run (parse n o (d - 1) guard (end - (at + 1))) s (at + 1)) → Says (Until end) (Ok last) (run (parse n o (d - 1) term (end - next)) s next) → Says (Until end) r (run (parse n o (d - 1) term (end - last)) s last) → Says (Until end) r (run (parse n o d term (end - at)) s at)
  unfolding term_by
  case_read next last r is first second third =
      says_by (Until end) _ r _ (at_term n o s d at end b _ some byte is)
      (first_part n o s (parse n o (d - 1)) guard (at + 1) end next _ r first
      (λ g left. says_by (Until end) _ r _ (ap (λ l. run (two n o (parse n o (d - 1)) term l (branch g.expr)) s next) left)
      (first_part n o s (parse n o (d - 1)) term next end last _ r second
      (λ a rest. last_read n o s (parse n o (d - 1)) term last end a.left (branch g.expr a.expr) r rest third))))

  -- the leaves of a term
  abbrev Byte : ℕ → ℕ → Type 0
  Byte place x = (place < end) × (place < length s) × (x ≡ get_or s place 0)

  pub literal_stops : (f : Fault) → Some K.Literal ≡ term_code b → Stops s o (at + 1) end f → run (parse n o d term (end - at)) s at ≡ bad f
  unfolding term_by
  literal_stops f is h = at_term n o s d at end b _ some byte is ∙ next_stops n o s (at + 1) end f _ (omega arith) h

  pub literal_stops_later : (x : ℕ) (f : Fault) → Some K.Literal ≡ term_code b → Byte (at + 1) x → Stops s o (at + 2) end f → run (parse n o d term (end - at)) s at ≡ bad f
  unfolding term_by
  literal_stops_later x f is p h =
      let e : at + 2 ≡ at + 1 + 1 = omega arith in
      at_term n o s d at end b _ some byte is ∙ next_goes n o s (at + 1) end x _ p ∙ next_stops n o s (at + 1 + 1) end f _ (omega arith) (subst (λ k. Stops s o k end f) e h)

  pub literal_read : (x y : ℕ) → Some K.Literal ≡ term_code b → Byte (at + 1) x → Byte (at + 2) y → Says (Until end) (Ok (at + 3)) (run (parse n o d term (end - at)) s at)
  unfolding term_by
  literal_read x y is p q =
      let e : at + 2 ≡ at + 1 + 1 = omega arith in
      answers (Until end) _ (at + 3) _ (at + 1 + 1 + 1)
      (at_term n o s d at end b _ some byte is ∙ next_goes n o s (at + 1) end x _ p ∙ next_goes n o s (at + 1 + 1) end y _ (subst (λ k. Byte k y) e q) ∙ run-done _ s (at + 1 + 1 + 1))
      (omega arith, refl)

  pub variable_stops : (f : Fault) → Some K.Variable ≡ term_code b → Stops s o (at + 1) end f → run (parse n o d term (end - at)) s at ≡ bad f
  unfolding term_by
  variable_stops f is h = at_term n o s d at end b _ some byte is ∙ next_stops n o s (at + 1) end f _ (omega arith) h

  pub variable_read : (v : ℕ) → Some K.Variable ≡ term_code b → Byte (at + 1) v → v < n → Says (Until end) (Ok (at + 2)) (run (parse n o d term (end - at)) s at)
  unfolding term_by
  variable_read v is p near =
      answers (Until end) _ (at + 2) (record { expr = variable v; left = end - (at + 1 + 1) }) (at + 1 + 1)
      (at_term n o s d at end b _ some byte is ∙ next_goes n o s (at + 1) end v _ p ∙ rw (lt-ltb v n near) (run-done _ s (at + 1 + 1))) (omega arith, refl)

  pub variable_far : (v : ℕ) → Some K.Variable ≡ term_code b → Byte (at + 1) v → n ≤ v → run (parse n o d term (end - at)) s at ≡ bad (fault_at (Breaks KnownNumber) o (at + 1))
  unfolding term_by
  variable_far v is p far =
      at_term n o s d at end b _ some byte is ∙ next_goes n o s (at + 1) end v _ p ∙ rw (le-ltb v n far) (run-refuse o KnownNumber s (at + 1))
