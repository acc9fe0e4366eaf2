-- A scanner reads a file forward, byte by byte, and what it says of a file.
use Rattle.std.specs.Prelude.{ℕ, zero, suc, ◌+◌, ◌-◌, ◌*◌, Bool, cond, ◌&&◌, ltb, List, [], ◌∷◌, ◌++◌, length, nat_le, nat_lt, slice_index}
use Rattle.scan.specs.declared.refusal.Origin.{Origin}
use Rattle.scan.specs.declared.refusal.Fault.{Fault}
use Rattle.scan.specs.declared.refusal.FileFault.TheVariants.{EndsTooSoon, Breaks}
use Rattle.scan.specs.declared.refusal.FileRule.{FileRule}
use Rattle.scan.specs.declared.refusal.FileRule.TheVariants.{CountLimits, ZeroOrOne, KnownNumber}
use Rattle.scan.specs.Faults.{fault_at}

-- It is done, or it refuses the byte that it read last, or it asks for the next byte and goes on by that.
pub data Scan (A : Type 0) : Type 0 where
  done : A → Scan A
  refuse : Origin → FileRule → Scan A
  ask : Origin → (ℕ → Scan A) → Scan A

-- one scanner, and then another that may go by what the first one read
unfoldable pub and_then : {A B : Type 0} → Scan A → (A → Scan B) → Scan B
and_then (done a) next = next a
and_then (refuse o rule) next = refuse o rule
and_then (ask o go) next = ask o (λ b. and_then (go b) next)

-- what was read and where it ends, or a refusal
pub data Out (A : Type 0) : Type 0 where
  good : A → ℕ → Out A
  bad : Fault → Out A

-- what a scanner says of the file s from a byte on
unfoldable pub run : {A : Type 0} → Scan A → List ℕ → ℕ → Out A
run (done a) s at = good a at
run (refuse o rule) s at = bad (fault_at (Breaks rule) o (at - 1))
run (ask o go) s at = cond (nat_lt at (length s)) (run (go (slice_index s at)) s (at + 1)) (bad (fault_at EndsTooSoon o at))

-- a byte that passes a test, which else refuses it
unfoldable pub tested : Origin → FileRule → (ℕ → Bool) → Scan ℕ
tested o rule test = ask o (λ b. cond (test b) (done b) (refuse o rule))

-- a count between two limits
unfoldable pub counted : Origin → ℕ → ℕ → Scan ℕ
counted o low high = tested o CountLimits (λ b. nat_le low b && nat_le b high)

-- the number of one of n things
unfoldable pub numbered : Origin → ℕ → Scan ℕ
numbered o n = tested o KnownNumber (λ b. ltb b n)

-- 0 or 1
unfoldable pub zero_or_one : Origin → Scan ℕ
zero_or_one o = tested o ZeroOrOne (λ b. ltb b 2)

-- two bytes, the high one first
unfoldable pub pair : Origin → Scan ℕ
pair o = ask o (λ h. ask o (λ l. done (h * 256 + l)))

-- n things one after another; each may go by those before it
unfoldable pub collect : {A : Type 0} → ℕ → (List A → Scan A) → List A → Scan (List A)
collect zero one before = done before
collect (suc n) one before = and_then (one before) (λ a. collect n one (before ++ a ∷ []))
