-- A reader's answer beside what a scanner says.
use Rattle.std.specs.Prelude.{◌≡◌, ℕ, ◌+◌, Ok, Err, Result}
use Rattle.scan.specs.declared.refusal.Fault.{Fault}
use Rattle.scan.specs.Scan.{Out, good, bad}

-- the scanner reads a value to an end, and they are as K says
pub record Reads {A : Type 0} (K : A → ℕ → Type 0) (m : Out A) : Type 0 where
  pub value : A
  pub end : ℕ
  pub is : m ≡ good value end
  pub holds : K value end

abbrev pub Agree : {A R : Type 0} → (R → A → ℕ → Type 0) → Result R Fault → Out A → Type 0
Agree K (Ok v) m = Reads (K v) m
Agree K (Err f) m = m ≡ bad f

-- where the code answers v, the scanner reads a value that K ties to v; where it refuses, the scanner refuses alike
pub record Says {A R : Type 0} (K : R → A → ℕ → Type 0) (r : Result R Fault) (m : Out A) : Type 0 where
  pub agree : Agree K r m

-- the value itself, which ends with the byte at a place
abbrev pub Next : ℕ → ℕ → ℕ → ℕ → Type 0
Next at v a end = (a ≡ v) × (end ≡ at + 1)
