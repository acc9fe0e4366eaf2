-- What is said of a file means what it should.
use Rattle.std.proofs.Common.{◌≡◌, ℕ, ◌+◌, ◌<◌, ◌≤◌, ltb, ◌⊎◌, List, length, take, sym, refl, ap, ◌∙◌, subst, inl, inr, arith, length-take}
use Rattle.std.proofs.lemmas.Bool.{cases_Bool, ltb-true, lt-ltb, le-ltb, cond-true, cond-false}
use Rattle.scan.specs.declared.refusal.Origin.{Origin}
use Rattle.scan.specs.declared.refusal.Place.{Place}
use Rattle.scan.specs.declared.refusal.Section.TheVariants.{Transitions}
use Rattle.scan.specs.declared.refusal.Fault.{Fault}
use Rattle.scan.specs.declared.refusal.Fault.TheVariants.{File, Buffer}
use Rattle.scan.specs.declared.refusal.FileFault.TheVariants.{EndsTooSoon, BytesFollow, Breaks}
use Rattle.scan.specs.declared.refusal.FileRule.{FileRule}
use Rattle.scan.specs.Faults.{fault_at}
use Rattle.scan.specs.Scan.{Out, good, bad, run, and_then, counted, tested}
use Rattle.scan.specs.Stands.{Bytes}
use Rattle.scan.proofs.Fronts.{Asks, broken_inside, broken_alike, good_alike, short_at_length, short_before, never_follows, never_buffer, front_shorter, front_cut, bytes_cut}
use Rattle.system.specs.System.{System, rows}
use Rattle.system.specs.Encode.{encode}
use Rattle.system.specs.Scan.{origin, events, file, nothing_follows, answer}
use Rattle.system.specs.Verdict.{StandsFor, StandsForNone, RefusalSays, RefusalHolds}
use Rattle.system.proofs.Files.{one_system, accepted_encodes, encodes_accepted}

pub accepted_stands : (s : List ℕ) → Bytes s → (S : System) (end : ℕ) → answer s ≡ good S end → StandsFor s S
accepted_stands s bytes S end is =
    let h = accepted_encodes s bytes S end is in
    record { formed = h.0; bytes = h.1; only = λ T formed same. one_system T S formed h.0 (same ∙ sym h.1) }

pub refused_none : (s : List ℕ) (f : Fault) → answer s ≡ bad f → StandsForNone s
refused_none s f is S formed same =
    let e : answer s ≡ good S (length (encode S)) = ap answer (sym same) ∙ encodes_accepted S formed in
    let z : ◌≡◌ {A = ℕ} 0 1 = cc in
    omega arith

file-asks : Asks file
unfolding file events counted tested and_then
file-asks = tt

pub answer-bad : (s : List ℕ) (f : Fault) → run file s 0 ≡ bad f → answer s ≡ bad f
unfolding answer
answer-bad s f is = ap (nothing_follows s) is

pub answer-more : (s : List ℕ) (S : System) (end : ℕ) → run file s 0 ≡ good S end → end < length s → answer s ≡ bad (fault_at BytesFollow (origin Transitions (length (rows S))) end)
unfolding answer
answer-more s S end is more = ap (nothing_follows s) is ∙ cond-true _ _ _ (lt-ltb end (length s) more)

pub answer-whole : (s : List ℕ) (S : System) (end : ℕ) → run file s 0 ≡ good S end → length s ≤ end → answer s ≡ good S end
unfolding answer
answer-whole s S end is whole = ap (nothing_follows s) is ∙ cond-false _ _ _ (le-ltb end (length s) whole)

-- why a file is refused: by the scanner, or since bytes follow
why : (s : List ℕ) (f : Fault) → answer s ≡ bad f → (run file s 0 ≡ bad f) ⊎ ((S : System) × (end : ℕ) × (run file s 0 ≡ good S end) × (end < length s) × (f ≡ fault_at BytesFollow (origin Transitions (length (rows S))) end))
unfolding answer
why s f is = go (run file s 0) refl is
  where
    go : (m : Out System) → run file s 0 ≡ m → nothing_follows s m ≡ bad f → (run file s 0 ≡ bad f) ⊎ ((S : System) × (end : ℕ) × (run file s 0 ≡ good S end) × (end < length s) × (f ≡ fault_at BytesFollow (origin Transitions (length (rows S))) end))
    go (bad g) e h = inl (e ∙ h)
    go (good S end) e h =
        elim (cases_Bool (ltb end (length s))) [
          | inl more ↦ let q = sym (cond-true _ _ _ more) ∙ h in inr (S, end, e, ltb-true end (length s) more, cc)
          | inr none ↦ absurd (let q = sym (cond-false _ _ _ none) ∙ h in let z : ◌≡◌ {A = ℕ} 0 1 = cc in omega arith)
        ]

alike : (s t : List ℕ) (f : Fault) → answer t ≡ bad f → (answer t ≡ bad f) × StandsForNone t
alike s t f is = (is, refused_none t f is)

broken_says : (s : List ℕ) (rule : FileRule) (p : Place) → run file s 0 ≡ bad (File (Breaks rule) p) → RefusalSays s (File (Breaks rule) p)
broken_says s rule p is =
    let o : Origin = record { section = p.section; row = p.row } in (
      broken_inside file s rule o p.byte file-asks is,
      λ t same. alike s t (File (Breaks rule) p) (answer-bad t _ (broken_alike file s t 0 rule o p.byte is same)),
    )

short_says : (s : List ℕ) (p : Place) → run file s 0 ≡ bad (File EndsTooSoon p) → RefusalSays s (File EndsTooSoon p)
short_says s p is =
    let o : Origin = record { section = p.section; row = p.row } in (
      short_at_length file s 0 o p.byte (omega arith) is,
      λ n few. let r = short_before file s 0 o p.byte n (omega arith) few is in (r.0, answer-bad (take n s) _ r.1),
    )

follow_says : (s : List ℕ) → Bytes s → (S : System) (end : ℕ) → run file s 0 ≡ good S end → end < length s → RefusalSays s (fault_at BytesFollow (origin Transitions (length (rows S))) end)
follow_says s bytes S end is more =
    let long : length (take end s) ≡ end = simp length-take (omega arith) in
    let cut : answer (take end s) ≡ good S end = answer-whole (take end s) S end (good_alike file s (take end s) 0 S end (omega arith) is (front_cut end s (omega arith))) (omega arith) in (
      more,
      (S, accepted_stands (take end s) (bytes_cut end s bytes) S end cut),
      λ t same. alike s t _ (answer-more t S end (good_alike file s t 0 S end (omega arith) is (front_shorter end (end + 1) s t (omega arith) same)) (omega (arith, same.there))),
    )

pub refusal_holds : (s : List ℕ) → Bytes s → (f : Fault) → answer s ≡ bad f → RefusalHolds s f
refusal_holds s bytes f is = record { none = refused_none s f is; says = go f (why s f is) }
  where
    go : (g : Fault) → (run file s 0 ≡ bad g) ⊎ ((S : System) × (end : ℕ) × (run file s 0 ≡ good S end) × (end < length s) × (g ≡ fault_at BytesFollow (origin Transitions (length (rows S))) end)) → RefusalSays s g
    go g (inr h) = subst (λ x. RefusalSays s x) (sym h.4) (follow_says s bytes h.0 h.1 h.2 h.3)
    go (File EndsTooSoon p) (inl h) = short_says s p h
    go (File BytesFollow p) (inl h) = absurd (never_follows file s 0 (record { section = p.section; row = p.row }) p.byte h)
    go (Buffer needed) (inl h) = never_buffer file s 0 needed h
    go (File (Breaks rule) p) (inl h) = broken_says s rule p h
