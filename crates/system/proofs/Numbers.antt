-- A number of one of n things that has a second test: what its scanner says.
use Rattle.std.proofs.Common.{◌≡◌, ℕ, ◌+◌, Bool, true, false, cond, ltb, List, length, get_or, Ok, Err, refl, ◌∙◌, inl, inr}
use Rattle.std.proofs.lemmas.Bool.{cases_Bool}
use Rattle.scan.specs.declared.refusal.Origin.{Origin}
use Rattle.scan.specs.declared.refusal.Fault.{Fault}
use Rattle.scan.specs.declared.refusal.FileFault.TheVariants.{Breaks}
use Rattle.scan.specs.declared.refusal.FileRule.{FileRule}
use Rattle.scan.specs.declared.refusal.FileRule.TheVariants.{KnownNumber}
use Rattle.scan.specs.Faults.{fault_at}
use Rattle.scan.specs.Scan.{Scan, done, refuse, ask, and_then, bad, run, tested, numbered}
use Rattle.scan.specs.Says.{Says, Next}
use Rattle.scan.proofs.Runs.{run-done, run-refuse, byte_bad, byte_read, answers}

module _ (o : Origin) (n : ℕ) (rule : FileRule) (test : ℕ → Bool) (s : List ℕ) (at : ℕ) where
  abbrev second : ℕ → Scan ℕ
  second x = cond (test x) (done x) (refuse o rule)

  abbrev both : Scan ℕ
  both = ask o (λ x. cond (ltb x n) (second x) (refuse o KnownNumber))

  in_turn : run both s at ≡ run (and_then (numbered o n) second) s at
  unfolding numbered tested and_then run
  in_turn =
      elim (cases_Bool (ltb at (length s))) [
        | inl under ↦ rw under (elim (cases_Bool (ltb (get_or s at 0) n)) [
          | inl yes' ↦ rw yes'
          | inr no' ↦ rw no'
        ])
        | inr past ↦ rw past
      ]

  pub both_bad : (f : Fault) → Says (Next at) (Err f) (run (numbered o n) s at) → run both s at ≡ bad f
  both_bad f says = in_turn ∙ byte_bad (numbered o n) second s at f says

  pub both_fails : (x : ℕ) → Says (Next at) (Ok x) (run (numbered o n) s at) → test x ≡ false → run both s at ≡ bad (fault_at (Breaks rule) o at)
  both_fails x says no' = in_turn ∙ byte_read (numbered o n) second s at x says ∙ rw no' (run-refuse o rule s at)

  pub both_read : (x : ℕ) → Says (Next at) (Ok x) (run (numbered o n) s at) → test x ≡ true → Says (Next at) (Ok x) (run both s at)
  both_read x says yes' =
      answers (Next at) _ x x (at + 1) (in_turn ∙ byte_read (numbered o n) second s at x says ∙ rw yes' (run-done x s (at + 1))) (refl, refl)
