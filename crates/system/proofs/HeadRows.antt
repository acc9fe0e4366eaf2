-- The scanner of the automata reads exactly 1 to 12 well-formed automata without transitions behind their count.
use Rattle.std.proofs.Common.{◌≡◌, ℕ, ◌<◌, ◌≤◌, Bool, true, false, ltb, leb, List, [], ◌∷◌, ◌++◌, length, refl, ap, ◌∙◌, arith}
use Rattle.std.proofs.lemmas.List.{append-nil}
use Rattle.std.proofs.lemmas.Bool.{ltb-true, leb-true, lt-ltb, le-leb}
use Rattle.std.proofs.lemmas.Bool.Decides.{nat_tests}
use Rattle.std.specs.List.{flat_map}
use Rattle.scan.specs.declared.refusal.Origin.{Origin}
use Rattle.scan.specs.declared.refusal.Section.TheVariants.{Automata}
use Rattle.scan.specs.declared.refusal.FileRule.TheVariants.{KnownNumber, RisingOrder}
use Rattle.scan.specs.Scan.{counted, numbered, zero_or_one, collect}
use Rattle.scan.specs.Stands.{Each}
use Rattle.scan.proofs.Codecs.{Codec, codec_as, codec_same, codec_map, codec_then, codec_when, codec_ask, codec_done, codec_counted, codec_numbered, codec_zero_or_one, codec_collect, codec_listed}
use Rattle.system.specs.System.{Role, Automaton}
use Rattle.system.specs.declared.kinds.Role.TheVariants.{Plant, Specification}
use Rattle.system.specs.Formed.{All, Rising, HeadFormed}
use Rattle.system.specs.Encode.{role_byte, mark_byte, mark_bytes, event_bytes, head_bytes, automata_bytes}
use Rattle.system.specs.Scan.{origin, row_after, bound, role_of, mark_of, mark, rising, head_row, heads}
use Rattle.system.proofs.Eaches.{all_any, each_like, each_both, each_all, all_each, bound-rising, rising-bound}

role_byte_lem : (b : ℕ) → b < 2 → role_byte (role_of b) ≡ b
role_byte_lem b h = grind (arith, nat_tests)

byte_role : (r : Role) → (role_byte r < 2) × (r ≡ role_of (role_byte r))
byte_role Plant = (omega arith, refl)
byte_role Specification = (omega arith, refl)

mark-byte : (b : ℕ) → b < 2 → mark_byte (mark_of b) ≡ b
mark-byte b h = grind (arith, nat_tests)

byte_mark : (m : Bool) → (mark_byte m < 2) × (m ≡ mark_of (mark_byte m))
byte_mark false = (omega arith, refl)
byte_mark true = (omega arith, refl)

pub codec_mark : (o : Origin) → Codec (mark o) mark_bytes (λ m. Unit {0})
unfolding mark
codec_mark o = codec_same (λ m. Unit {0}) (codec_map mark_of mark_byte (codec_zero_or_one o) mark-byte) (λ m h. tt) (λ m h. byte_mark m)

-- the number of one of n things, which does not fall below a floor
pub codec_rising : (o : Origin) (n floor : ℕ) → Codec (rising o n floor) (λ x. x ∷ []) (λ x. (x < n) × (floor ≤ x))
unfolding rising
codec_rising o n floor =
    codec_same (λ x. (x < n) × (floor ≤ x))
    (codec_ask o _ _ _ (λ x. x) (λ x. codec_when (ltb x n) o KnownNumber (codec_when (leb floor x) o RisingOrder (codec_done x))) (λ x y q. q.1.1))
    (λ x h. (ltb-true x n h.0, leb-true floor x h.1.0)) (λ x h. (lt-ltb x n h.0, (le-leb floor x h.1, refl)))

-- numbers that rise
pub rising-known : (n : ℕ) (xs : List ℕ) → Each (λ before x. (x < n) × (bound before ≤ x)) [] xs → All (λ x. x < n) xs × Rising xs
rising-known n xs h = (
  each_all (λ x. x < n) [] xs (each_like _ _ (λ before x g. g.0) [] xs h),
  bound-rising xs (each_like _ _ (λ before x g. g.1) [] xs h),
)

pub known_rising : (n : ℕ) (xs : List ℕ) → All (λ x. x < n) xs → Rising xs → Each (λ before x. (x < n) × (bound before ≤ x)) [] xs
known_rising n xs h g = each_both (λ before x. x < n) (λ before x. bound before ≤ x) [] xs (all_each (λ x. x < n) [] xs h) (rising-bound xs g)

-- an automaton without transitions
made : (A : Automaton) → A.transitions ≡ [] → A ≡ record { role = role_of (role_byte A.role); start = A.start; marks = A.marks; alphabet = A.alphabet; transitions = [] }
made A none =
    ap (λ ts. record { role = A.role; start = A.start; marks = A.marks; alphabet = A.alphabet; transitions = ts }) none
    ∙ ap (λ r. record { role = r; start = A.start; marks = A.marks; alphabet = A.alphabet; transitions = [] }) (byte_role A.role).1

module _ (n : ℕ) (o : Origin) where
  marks_codec : (k : ℕ) → Codec (collect k (λ before. mark o) []) (flat_map mark_bytes) (λ ms. (length ms ≡ k) × Each (λ before m. Unit {0}) [] ms)
  marks_codec = codec_collect (λ before. mark o) mark_bytes (λ before m. Unit {0}) (λ before. codec_mark o)

  alphabet_codec : (k : ℕ) → Codec (collect k (λ before. rising o n (bound before)) []) (flat_map event_bytes) (λ xs. (length xs ≡ k) × Each (λ before x. (x < n) × (bound before ≤ x)) [] xs)
  alphabet_codec = codec_collect (λ before. rising o n (bound before)) event_bytes (λ before x. (x < n) × (bound before ≤ x)) (λ before. codec_rising o n (bound before))

  pub codec_head : Codec (head_row n o) head_bytes (λ A. HeadFormed n A × (A.transitions ≡ []))
  unfolding head_row
  codec_head =
      codec_as head_bytes (λ A. HeadFormed n A × (A.transitions ≡ []))
      (codec_then (zero_or_one o) _ _ _ _ _ (λ A. role_byte A.role) (codec_zero_or_one o) (λ role p.
      codec_then (counted o 1 64) _ _ _ _ _ (λ A. length A.marks) (codec_counted o 1 64) (λ locations p.
      codec_then (numbered o locations) _ _ _ _ _ (λ A. A.start) (codec_numbered o locations) (λ start p.
      codec_then (collect locations (λ before. mark o) []) _ _ _ _ _ (λ A. A.marks) (marks_codec locations) (λ marks p.
      codec_then (counted o 1 24) _ _ _ _ _ (λ A. length A.alphabet) (codec_counted o 1 24) (λ size p.
      codec_then (collect size (λ before. rising o n (bound before)) []) _ _ _ _ _ (λ A. A.alphabet) (alphabet_codec size) (λ alphabet p. codec_done _)
      (λ x A p q. ap (λ B. B.alphabet) q)) (λ x A p q. q.0.0)) (λ x A p q. ap (λ B. B.marks) q.1.1)) (λ x A p q. ap (λ B. B.start) q.1.1.1))
      (λ x A p q. q.1.0.0)) (λ x A p q. ap (λ B. role_byte B.role) q.1.1.1.1.1 ∙ role_byte_lem x p))
      (λ A h.
      let r = rising-known n A.alphabet h.1.1.1.1.1.0.1 in (
        record {
          some_location = h.1.0.0;
          locations = h.1.0.1;
          start = h.1.1.0;
          some_event = h.1.1.1.1.0.0;
          few_events = h.1.1.1.1.0.1;
          known = r.0;
          rising = r.1;
        },
        ap (λ B. B.transitions) h.1.1.1.1.1.1,
      ))
      (λ A h.
      let f = h.0 in (
        (byte_role A.role).0,
        (
          (f.some_location, f.locations),
          (
            f.start,
            (
              (refl, all_each (λ m. Unit {0}) [] A.marks (all_any A.marks)),
              (
                (f.some_event, f.few_events),
                ((refl, known_rising n A.alphabet f.known f.rising), made A h.1),
              ),
            ),
          ),
        ),
      ))
      (λ A h. ap (λ xs. role_byte A.role ∷ (length A.marks ∷ (A.start ∷ (flat_map mark_bytes A.marks ++ (length A.alphabet ∷ xs))))) (append-nil (flat_map event_bytes A.alphabet)))

pub codec_heads : (n : ℕ) → Codec (heads n) automata_bytes (λ As. (1 ≤ length As) × (length As ≤ 12) × All (λ A. HeadFormed n A × (A.transitions ≡ [])) As)
unfolding heads
codec_heads n =
    codec_same (λ As. (1 ≤ length As) × (length As ≤ 12) × All (λ A. HeadFormed n A × (A.transitions ≡ [])) As)
    (codec_listed (origin Automata 0) 1 12 (λ before. head_row n (row_after Automata before)) head_bytes (λ before A. HeadFormed n A × (A.transitions ≡ [])) (λ before. codec_head n (row_after Automata before)))
    (λ As h. (h.0, h.1, each_all (λ A. HeadFormed n A × (A.transitions ≡ [])) [] As h.2))
    (λ As h. (h.0, h.1, all_each (λ A. HeadFormed n A × (A.transitions ≡ [])) [] As h.2))
