-- An expression behind its length: what its scanner says, from what it says of the expression.
use Rattle.std.proofs.Common.{◌≡◌, ℕ, zero, suc, ◌+◌, ◌-◌, ◌<◌, ◌≤◌, List, length, Ok, Err, Result, sym, ap, ◌∙◌, subst, inl, inr, arith}
use Rattle.std.proofs.lemmas.Bool.{cases_lt}
use Rattle.scan.specs.declared.refusal.Origin.{Origin}
use Rattle.scan.specs.declared.refusal.Fault.{Fault}
use Rattle.scan.specs.declared.refusal.FileFault.TheVariants.{EndsTooSoon, Breaks}
use Rattle.scan.specs.declared.refusal.FileRule.TheVariants.{Expression}
use Rattle.scan.specs.Faults.{fault_at}
use Rattle.scan.specs.Scan.{bad, run}
use Rattle.scan.specs.Says.{Says}
use Rattle.scan.proofs.Runs.{run-done, run-refuse, run-ask, run_short, run-then, run-fails, answers}
use Rattle.expr.specs.Expr.{Kind}
use Rattle.expr.specs.Scan.{Part, parse, leftover, finished, of_length, sized}
use Rattle.expr.specs.Ends.{Until, Lengthy, Ended, At}

module _ (n : ℕ) (o : Origin) (s : List ℕ) where
  -- bytes of the length that are left over
  left_over : {A : Type 0} (left at : ℕ) → at + 1 + left ≤ length s → run {A = A} (leftover n o left) s (at + 1) ≡ bad (fault_at (Breaks Expression) o (at + left))
  unfolding leftover
  left_over zero at h = run-refuse o Expression s at ∙ ap (λ k. bad (fault_at (Breaks Expression) o k)) (omega arith)
  left_over (suc left) at h =
      run-ask o _ s (at + 1) (omega arith) ∙ left_over left (at + 1) (omega arith) ∙ ap (λ k. bad (fault_at (Breaks Expression) o k)) (omega arith)

  left_short : {A : Type 0} (left at : ℕ) → at ≤ length s → length s < at + left → run {A = A} (leftover n o left) s at ≡ bad (fault_at EndsTooSoon o (length s))
  unfolding leftover
  left_short zero at h g = absurd (let z : ⊥ = omega arith in z)
  left_short (suc left) at h g =
      elim (cases_lt at (length s)) [
        | inl under ↦ run-ask o _ s at under ∙ left_short left (at + 1) (omega arith) (omega arith)
        | inr past ↦ run_short o _ s at past ∙ ap (λ k. bad (fault_at EndsTooSoon o k)) (omega arith)
      ]

  module _ (k : Kind) where
    finish : (p : Part k) (left stop end : ℕ) (r : Result ℕ Fault) → left ≡ end - stop → stop ≤ length s → Ended s stop end o r → Says At r (run (finished n o p left) s stop)
    unfolding finished
    finish p zero stop end (Ok e) is in' h =
        answers At _ e p.expr stop (run-done _ s stop) (omega (arith, h.0, h.1))
    finish p zero stop end (Err f) is in' h = absurd (let z : ⊥ = omega (arith, h.0) in z)
    finish p (suc left) stop end (Ok e) is in' h = absurd (let z : ⊥ = omega (arith, h.0) in z)
    finish p (suc left) stop end (Err f) is in' (lt, inl h) = record {
      agree = run-ask o _ s stop (omega (arith, h.0)) ∙ left_over left stop (omega (arith, h.0))
          ∙ ap (λ i. bad (fault_at (Breaks Expression) o i)) (omega arith) ∙ ap bad (sym h.1);
    }
    finish p (suc left) stop end (Err f) is in' (lt, inr h) = record {
      agree = elim (cases_lt stop (length s)) [
        | inl under ↦ run-ask o _ s stop under ∙ left_short left (stop + 1) (omega arith) (omega (arith, h.0)) ∙ ap bad (sym h.1)
        | inr past ↦ run_short o _ s stop past ∙ ap (λ i. bad (fault_at EndsTooSoon o i)) (omega arith) ∙ ap bad (sym h.1)
      ];
    }

    pub sized_none : (at : ℕ) (f : Fault) → Lengthy s at o (Err f) → run (sized n o k) s at ≡ bad f
    unfolding sized of_length
    sized_none at f (inl h) = run-ask o _ s at h.0 ∙ rw h.1 (run-refuse o Expression s at) ∙ ap bad (sym h.2)
    sized_none at f (inr h) = run_short o _ s at h.0 ∙ ap bad (sym h.1)

    -- the length is there
    module _ (at end : ℕ) (long : Lengthy s at o (Ok end)) where
      begins : run (sized n o k) s at ≡ run (of_length n o k (end - (at + 1))) s (at + 1)
      unfolding sized
      begins = run-ask o _ s at long.0 ∙ ap (λ b. run (of_length n o k b) s (at + 1)) (omega (arith, long.3))

      pub sized_bad : (f : Fault) → Says (Until end) (Err f) (run (parse n o 16 k (end - (at + 1))) s (at + 1)) → run (sized n o k) s at ≡ bad f
      unfolding of_length
      sized_bad f says = begins ∙ go (end - (at + 1)) (omega (arith, long.1, long.3)) says.agree
        where
          go : (left : ℕ) → 0 < left → run (parse n o 16 k left) s (at + 1) ≡ bad f → run (of_length n o k left) s (at + 1) ≡ bad f
          go zero some is = absurd (let z : ⊥ = omega arith in z)
          go (suc left) some is = run-fails (parse n o 16 k (suc left)) _ s (at + 1) f is

      pub sized_read : (stop : ℕ) (r : Result ℕ Fault) → Says (Until end) (Ok stop) (run (parse n o 16 k (end - (at + 1))) s (at + 1)) → stop ≤ length s → Ended s stop end o r → Says At r (run (sized n o k) s at)
      unfolding of_length
      sized_read stop r says in' ends = rw begins (go (end - (at + 1)) (omega (arith, long.1, long.3)) says)
        where
          go : (left : ℕ) → 0 < left → Says (Until end) (Ok stop) (run (parse n o 16 k left) s (at + 1)) → Says At r (run (of_length n o k left) s (at + 1))
          go zero some h = absurd (let z : ⊥ = omega arith in z)
          go (suc left) some h =
              let w = h.agree in
              let e : w.end ≡ stop = sym w.holds.0 in
              rw (run-then (parse n o 16 k (suc left)) _ s (at + 1) w.end w.value w.is)
              (subst (λ i. Says At r (run (finished n o w.value w.value.left) s i)) (sym e)
              (finish w.value w.value.left stop end r (w.holds.1 ∙ ap (λ i. end - i) e) in' ends))
