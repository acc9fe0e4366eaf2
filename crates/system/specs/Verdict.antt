-- What an answer on a file means: which files are accepted, and what a refusal depends on.
use Rattle.std.specs.Prelude.{◌≡◌, ℕ, ◌+◌, ◌<◌, ◌≤◌, List, length, take, ◌≢◌}
use Rattle.scan.specs.declared.refusal.Origin.{Origin}
use Rattle.scan.specs.declared.refusal.Fault.{Fault}
use Rattle.scan.specs.declared.refusal.Fault.TheVariants.{File, Buffer}
use Rattle.scan.specs.declared.refusal.FileFault.TheVariants.{EndsTooSoon, BytesFollow, Breaks}
use Rattle.scan.specs.Faults.{fault_at}
use Rattle.scan.specs.Fronts.{SameFront}
use Rattle.scan.specs.Scan.{bad}
use Rattle.system.specs.System.{System}
use Rattle.system.specs.Formed.{WellFormed}
use Rattle.system.specs.Encode.{encode}
use Rattle.system.specs.Scan.{answer}

-- the one well-formed system that the file encodes
pub record StandsFor (s : List ℕ) (S : System) : Type 0 where
  pub formed : WellFormed S
  pub bytes : encode S ≡ s
  pub only : (T : System) → WellFormed T → encode T ≡ s → T ≡ S

-- no well-formed system has these bytes
abbrev pub StandsForNone : List ℕ → Type 0
StandsForNone s = (S : System) → WellFormed S → encode S ≢ s

-- every file that begins with the same bytes, up to a place and with it, is refused alike, and stands for no system
abbrev pub RefusedAlike : List ℕ → ℕ → Fault → Type 0
RefusedAlike s byte f = (t : List ℕ) → SameFront (byte + 1) s t → (answer t ≡ bad f) × StandsForNone t

-- each beginning of the file ends too soon, at its own length
abbrev pub BeginningsShort : List ℕ → Type 0
BeginningsShort s = (n : ℕ) → n ≤ length s → (o : Origin) × (answer (take n s) ≡ bad (fault_at EndsTooSoon o n))

abbrev pub RefusalSays : List ℕ → Fault → Type 0
RefusalSays s (File EndsTooSoon p) = (p.byte ≡ length s) × BeginningsShort s
RefusalSays s (File BytesFollow p) = (p.byte < length s) × ((S : System) × StandsFor (take p.byte s) S) × RefusedAlike s p.byte (File BytesFollow p)
RefusalSays s (Buffer needed) = ⊥
RefusalSays s (File (Breaks rule) p) = (p.byte < length s) × RefusedAlike s p.byte (File (Breaks rule) p)

pub record RefusalHolds (s : List ℕ) (f : Fault) : Type 0 where
  pub none : StandsForNone s
  pub says : RefusalSays s f
