-- The scanner of the events reads exactly 1 to 64 kinds behind their count.
use Rattle.std.proofs.Common.{◌≡◌, ℕ, ◌<◌, ◌≤◌, [], length, refl, arith}
use Rattle.std.proofs.lemmas.Bool.Decides.{nat_tests}
use Rattle.scan.specs.declared.refusal.Origin.{Origin}
use Rattle.scan.specs.declared.refusal.Section.TheVariants.{Events}
use Rattle.scan.proofs.Codecs.{Codec, codec_same, codec_map, codec_zero_or_one, codec_listed}
use Rattle.system.specs.System.{EventKind}
use Rattle.system.specs.declared.kinds.EventKind.TheVariants.{Controllable, Uncontrollable}
use Rattle.system.specs.Encode.{kind_byte, kind_bytes, events_bytes}
use Rattle.system.specs.Scan.{origin, row_after, kind_of, event_row, events}
use Rattle.system.proofs.Eaches.{all_any, all_each}

kind_byte_lem : (b : ℕ) → b < 2 → kind_byte (kind_of b) ≡ b
kind_byte_lem b h = grind (arith, nat_tests)

byte_kind : (k : EventKind) → (kind_byte k < 2) × (k ≡ kind_of (kind_byte k))
byte_kind Controllable = (omega arith, refl)
byte_kind Uncontrollable = (omega arith, refl)

pub codec_event_row : (o : Origin) → Codec (event_row o) kind_bytes (λ k. Unit {0})
unfolding event_row
codec_event_row o = codec_same (λ k. Unit {0}) (codec_map kind_of kind_byte (codec_zero_or_one o) kind_byte_lem) (λ k h. tt) (λ k h. byte_kind k)

pub codec_events : Codec events events_bytes (λ ks. (1 ≤ length ks) × (length ks ≤ 64))
unfolding events
codec_events =
    codec_same (λ ks. (1 ≤ length ks) × (length ks ≤ 64))
    (codec_listed (origin Events 0) 1 64 (λ before. event_row (row_after Events before)) kind_bytes (λ before k. Unit {0}) (λ before. codec_event_row (row_after Events before)))
    (λ ks h. (h.0, h.1)) (λ ks h. (h.0, h.1, all_each (λ k. Unit {0}) [] ks (all_any ks)))
