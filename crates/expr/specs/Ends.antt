-- Where an expression's checker stops.
use Rattle.std.specs.Prelude.{◌≡◌, ℕ, ◌+◌, ◌-◌, ◌<◌, ◌≤◌, ◌⊎◌, List, length, Ok, Err, Result, slice_index}
use Rattle.scan.specs.declared.refusal.Origin.{Origin}
use Rattle.scan.specs.declared.refusal.Fault.{Fault}
use Rattle.scan.specs.declared.refusal.FileFault.TheVariants.{EndsTooSoon, Breaks}
use Rattle.scan.specs.declared.refusal.FileRule.TheVariants.{Expression}
use Rattle.scan.specs.Faults.{fault_at}
use Rattle.expr.specs.Expr.{Kind, Expr}
use Rattle.expr.specs.Scan.{Part}

-- no byte is to be had at the place: the length is used up there, or the file ends
abbrev pub Stops : List ℕ → Origin → ℕ → ℕ → Fault → Type 0
Stops s o at end f = ((end ≤ at) × (f ≡ fault_at (Breaks Expression) o (at - 1))) ⊎ ((at < end) × (length s ≤ at) × (f ≡ fault_at EndsTooSoon o at))

-- a part stops where the checker says, and the rest of the length reaches from there to its end
abbrev pub Until : {k : Kind} → ℕ → ℕ → Part k → ℕ → Type 0
Until end stop p at = (stop ≡ at) × (p.left ≡ end - at)

-- a length that is there and is not 0, as the place that it reaches to
abbrev pub Lengthy : List ℕ → ℕ → Origin → Result ℕ Fault → Type 0
Lengthy s at o (Ok end) = (at < length s) × (0 < slice_index s at) × (slice_index s at < 256) × (end ≡ at + 1 + slice_index s at)
Lengthy s at o (Err f) = ((at < length s) × (slice_index s at ≡ 0) × (f ≡ fault_at (Breaks Expression) o at)) ⊎ ((length s ≤ at) × (f ≡ fault_at EndsTooSoon o at))

-- an expression read to a stop is whole if its length ends there; else the last byte of the length is refused
abbrev pub Ended : List ℕ → ℕ → ℕ → Origin → Result ℕ Fault → Type 0
Ended s stop end o (Ok e) = (stop ≡ end) × (e ≡ end)
Ended s stop end o (Err f) = (stop < end) × (((end ≤ length s) × (f ≡ fault_at (Breaks Expression) o (end - 1))) ⊎ ((length s < end) × (f ≡ fault_at EndsTooSoon o (length s))))

-- an expression ends where the checker says
abbrev pub At : {k : Kind} → ℕ → Expr k → ℕ → Type 0
At end e at = end ≡ at
