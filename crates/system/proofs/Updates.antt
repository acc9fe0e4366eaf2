-- What the scanner of updates says, from what it says of one update.
use Rattle.std.proofs.Common.{◌≡◌, ℕ, ◌+◌, ◌<◌, ◌≤◌, List, map, Ok, Err, sym, refl, ap, ◌∙◌, subst, arith}
use Rattle.std.proofs.lemmas.List.{map_push}
use Rattle.scan.specs.declared.refusal.Origin.{Origin}
use Rattle.scan.specs.declared.refusal.Fault.{Fault}
use Rattle.scan.specs.Scan.{Scan, good, bad, run, counted}
use Rattle.scan.specs.Says.{Says, Next}
use Rattle.scan.proofs.Runs.{run-done, byte_bad, byte_read, run-then, run-fails}
use Rattle.scan.proofs.Loops.{Going, going_none, going_more, going_bad}
use Rattle.expr.specs.Expr.{term}
use Rattle.expr.specs.Scan.{sized}
use Rattle.expr.specs.Ends.{At}
use Rattle.system.specs.System.{Update}
use Rattle.system.specs.Scan.{bound, rising, update, updates}
use Rattle.system.proofs.Sections.{bound-next}

abbrev pub variables_of : List Update → List ℕ
variables_of us = map (λ u. u.variable) us

module _ (o : Origin) (n : ℕ) (s : List ℕ) (at : ℕ) where
  abbrev pub update_at : List Update → Scan Update
  update_at before = update o n (bound (variables_of before))

  abbrev pub UpdatesGoing : ℕ → ℕ → ℕ → ℕ → Type 0
  UpdatesGoing floor count k end = Going (λ before. bound (variables_of before) ≡ floor) update_at s (run (updates o n) s at) count k end

  pub updates_bad : (f : Fault) → Says (Next at) (Err f) (run (counted o 0 12) s at) → run (updates o n) s at ≡ bad f
  unfolding updates
  updates_bad f says = byte_bad _ _ s at f says

  pub updates_begin : (count : ℕ) → Says (Next at) (Ok count) (run (counted o 0 12) s at) → UpdatesGoing 0 count 0 (at + 1)
  unfolding updates
  updates_begin count says = going_none update_at s (λ before. bound (variables_of before) ≡ 0) (run (updates o n) s at) count (at + 1) (byte_read _ _ s at count says) refl

  pub variable_bad : (floor count k end : ℕ) (f : Fault) → k < count → UpdatesGoing floor count k end → Says (Next end) (Err f) (run (rising o n floor) s end) → run (updates o n) s at ≡ bad f
  unfolding update
  variable_bad floor count k end f under g says =
      going_bad update_at s _ _ count k end f under g
      (byte_bad _ _ s end f (subst (λ b. Says (Next end) (Err f) (run (rising o n b) s end)) (sym g.holds) says))

  pub term_bad : (floor count k end v : ℕ) (f : Fault) → k < count → UpdatesGoing floor count k end → Says (Next end) (Ok v) (run (rising o n floor) s end) → Says At (Err f) (run (sized n o term) s (end + 1)) → run (updates o n) s at ≡ bad f
  unfolding update
  term_bad floor count k end v f under g first second =
      going_bad update_at s _ _ count k end f under g
      (byte_read _ _ s end v (subst (λ b. Says (Next end) (Ok v) (run (rising o n b) s end)) (sym g.holds) first) ∙ run-fails _ _ s (end + 1) f second.agree)

  pub update_read : (floor count k end v stop : ℕ) → k < count → UpdatesGoing floor count k end → Says (Next end) (Ok v) (run (rising o n floor) s end) → floor ≤ v → Says At (Ok stop) (run (sized n o term) s (end + 1)) → UpdatesGoing (v + 1) count (k + 1) stop
  unfolding update
  update_read floor count k end v stop under g first above second =
      let w = second.agree in
      let u : Update = record { variable = v; value = w.value } in
      let read : run (sized n o term) s (end + 1) ≡ good w.value stop = w.is ∙ ap (good w.value) (sym w.holds) in
      let e : bound (variables_of g.before) ≡ floor = g.holds in
      going_more update_at s _ (λ before. bound (variables_of before) ≡ v + 1) _ count k end stop under g u
      (byte_read _ _ s end v (subst (λ b. Says (Next end) (Ok v) (run (rising o n b) s end)) (sym e) first) ∙ run-then _ _ s (end + 1) stop w.value read ∙ run-done u s stop)
      (ap bound (map_push (λ x. x.variable) g.before u) ∙ bound-next (variables_of g.before) v (omega arith))
