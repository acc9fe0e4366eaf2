-- A loop that reads things one after another: what is left takes the scanner to where the whole does.
use Rattle.std.proofs.Common.{◌≡◌, ℕ, zero, suc, ◌+◌, ◌-◌, ◌<◌, ◌≤◌, List, [], ◌∷◌, ◌++◌, length, refl, ap, ◌∙◌, arith}
use Rattle.std.proofs.lemmas.List.{length_push}
use Rattle.scan.specs.declared.refusal.Fault.{Fault}
use Rattle.scan.specs.Scan.{Scan, Out, good, bad, run, collect}
use Rattle.scan.proofs.Runs.{run-done, run-then, run-fails}

-- k of n things are read, and P holds of them; the others are to be read from a place on
pub record Going {A : Type 0} (P : List A → Type 0) (one : List A → Scan A) (s : List ℕ) (whole : Out (List A)) (n k at : ℕ) : Type 0 where
  pub before : List A
  pub count : length before ≡ k
  pub is : whole ≡ run (collect (n - k) one before) s at
  pub holds : P before

module _ {A : Type 0} (one : List A → Scan A) (s : List ℕ) where
  pub collect_more : (n k : ℕ) (before : List A) (at : ℕ) (a : A) (end : ℕ) → k < n → run (one before) s at ≡ good a end → run (collect (n - k) one before) s at ≡ run (collect (n - (k + 1)) one (before ++ a ∷ [])) s end
  unfolding collect
  collect_more n k before at a end under is = go (n - k) (omega arith)
    where
      go : (m : ℕ) → m ≡ suc (n - (k + 1)) → run (collect m one before) s at ≡ run (collect (n - (k + 1)) one (before ++ a ∷ [])) s end
      go zero e = absurd (let z : ⊥ = omega arith in z)
      go (suc m) e =
          let q : m ≡ n - (k + 1) = omega arith in
          run-then (one before) _ s at end a is ∙ ap (λ i. run (collect i one (before ++ a ∷ [])) s end) q

  pub collect_bad : (n k : ℕ) (before : List A) (at : ℕ) (f : Fault) → k < n → run (one before) s at ≡ bad f → run (collect (n - k) one before) s at ≡ bad f
  unfolding collect
  collect_bad n k before at f under is = go (n - k) (omega arith)
    where
      go : (m : ℕ) → 0 < m → run (collect m one before) s at ≡ bad f
      go zero e = absurd (let z : ⊥ = omega arith in z)
      go (suc m) e = run-fails (one before) _ s at f is

  pub collect_all : (n k : ℕ) (before : List A) (at : ℕ) → n ≤ k → run (collect (n - k) one before) s at ≡ good before at
  unfolding collect
  collect_all n k before at past = go (n - k) (omega arith)
    where
      go : (m : ℕ) → m ≡ 0 → run (collect m one before) s at ≡ good before at
      go zero e = run-done before s at
      go (suc m) e = absurd (let z : ⊥ = omega arith in z)

  -- one turn; what holds of the things read may change with it
  pub going_more : (P Q : List A → Type 0) (whole : Out (List A)) (n k at end : ℕ) → k < n → (g : Going P one s whole n k at) → (a : A) → run (one g.before) s at ≡ good a end → Q (g.before ++ a ∷ []) → Going Q one s whole n (k + 1) end
  going_more P Q whole n k at end under g a is holds = record {
    before = g.before ++ a ∷ [];
    count = length_push g.before a ∙ ap (λ i. i + 1) g.count;
    is = g.is ∙ collect_more n k g.before at a end under is;
    holds = holds;
  }

  module _ (P : List A → Type 0) (whole : Out (List A)) (n : ℕ) where
    pub going_none : (at : ℕ) → whole ≡ run (collect n one []) s at → P [] → Going P one s whole n 0 at
    going_none at is holds = record { before = []; count = refl; is = is ∙ ap (λ m. run (collect m one []) s at) (let e : n ≡ n - 0 = omega arith in e); holds = holds }

    pub going_bad : (k at : ℕ) (f : Fault) → k < n → (g : Going P one s whole n k at) → run (one g.before) s at ≡ bad f → whole ≡ bad f
    going_bad k at f under g is = g.is ∙ collect_bad n k g.before at f under is

    pub going_all : (k at : ℕ) → n ≤ k → (g : Going P one s whole n k at) → whole ≡ good g.before at
    going_all k at past g = g.is ∙ collect_all n k g.before at past
