-- The scanner of files reads exactly the encodings of well-formed systems.
use Rattle.std.proofs.Common.{◌≡◌, ℕ, ◌+◌, ◌<◌, ◌≤◌, ltb, List, [], ◌∷◌, ◌++◌, map, length, drop, sym, refl, ap, ◌∙◌, inl, inr, arith}
use Rattle.std.proofs.lemmas.List.{append-nil, drop_all, length-map}
use Rattle.std.proofs.lemmas.Bool.{cases_Bool, le-ltb, ltb-false, cond-true, cond-false}
use Rattle.std.specs.List.{flat_map}
use Rattle.scan.specs.Scan.{Out, good, bad, run}
use Rattle.scan.specs.Stands.{Stands, Bytes, Each}
use Rattle.scan.proofs.Codecs.{Codec, codec_as, codec_then, codec_done}
use Rattle.scan.proofs.Standing.{stands_front}
use Rattle.system.specs.System.{Transition, Automaton, System, Row, rows_from, rows}
use Rattle.system.specs.Formed.{All, HeadFormed, TransitionFormed, AutomatonFormed, WellFormed}
use Rattle.system.specs.Encode.{head_bytes, events_bytes, variables_bytes, automata_bytes, rows_bytes, encode}
use Rattle.system.specs.Scan.{events, variables, heads, transitions, assembled, file, nothing_follows, answer}
use Rattle.system.proofs.Eaches.{all_like, all_map, each_like, each_both, each_all, all_each}
use Rattle.system.proofs.EventRows.{codec_events}
use Rattle.system.proofs.VariableRows.{codec_variables}
use Rattle.system.proofs.HeadRows.{codec_heads}
use Rattle.system.proofs.TransitionRows.{Follows, codec_transitions}
use Rattle.system.proofs.Assembled.{stripped, Settled, Unfallen, Owned, Whole, rows-assembled, stripped_assembled, rows-high, assembled-rows, rows_settled, unfallen_settled, settled_unfallen, rows_hold, hold_rows}

-- transitions do not matter to the head of an automaton
joined-stripped : (As : List Automaton) → flat_map head_bytes (map stripped As) ≡ flat_map head_bytes As
joined-stripped [] = refl
joined-stripped (A ∷ As) = ap (λ xs. head_bytes A ++ xs) (joined-stripped As)

pub automata_stripped : (As : List Automaton) → automata_bytes (map stripped As) ≡ automata_bytes As
automata_stripped As = ap (λ n. n ∷ flat_map head_bytes (map stripped As)) (length-map As stripped) ∙ ap (λ xs. length As ∷ xs) (joined-stripped As)

module _ (n m : ℕ) where
  bare_head : (A : Automaton) → HeadFormed n A → HeadFormed n (stripped A)
  bare_head A h = record { some_location = h.some_location; locations = h.locations; start = h.start; some_event = h.some_event; few_events = h.few_events; known = h.known; rising = h.rising }

  head_bare : (A : Automaton) → HeadFormed n (stripped A) → HeadFormed n A
  head_bare A h = record { some_location = h.some_location; locations = h.locations; start = h.start; some_event = h.some_event; few_events = h.few_events; known = h.known; rising = h.rising }

  bare_transition : (A : Automaton) (t : Transition) → TransitionFormed n m A t → TransitionFormed n m (stripped A) t
  bare_transition A t h = record { from = h.from; event = h.event; in_alphabet = h.in_alphabet; to = h.to; guard = h.guard; few_updates = h.few_updates; updates = h.updates; rising = h.rising }

  transition_bare : (A : Automaton) (t : Transition) → TransitionFormed n m (stripped A) t → TransitionFormed n m A t
  transition_bare A t h = record { from = h.from; event = h.event; in_alphabet = h.in_alphabet; to = h.to; guard = h.guard; few_updates = h.few_updates; updates = h.updates; rising = h.rising }

  -- automata are well formed where their heads and their rows are
  abbrev Bare : Automaton → Type 0
  Bare A = HeadFormed n A × (A.transitions ≡ [])

  bare_automata : (As : List Automaton) → All (AutomatonFormed n m) As → All Bare (map stripped As)
  bare_automata As h = all_map stripped Bare As (all_like (AutomatonFormed n m) (λ A. Bare (stripped A)) (λ A g. (bare_head A g.head, refl)) As h)

  whole_automata : (As : List Automaton) → All (AutomatonFormed n m) As → All (Whole (TransitionFormed n m)) As
  whole_automata As h =
      all_like (AutomatonFormed n m) (Whole (TransitionFormed n m)) (λ A g. all_like (TransitionFormed n m A) (TransitionFormed n m (stripped A)) (bare_transition A) A.transitions g.transitions) As h

  automata_formed : (As : List Automaton) → All Bare (map stripped As) → All (Whole (TransitionFormed n m)) As → All (AutomatonFormed n m) As
  automata_formed [] h g = tt
  automata_formed (A ∷ As) h g = (
    record {
      head = head_bare A h.0.0;
      transitions = all_like (TransitionFormed n m (stripped A)) (TransitionFormed n m A) (transition_bare A) A.transitions g.0;
    },
    automata_formed As h.1 g.1,
  )

  -- rows one after another
  pub follows_known : (As : List Automaton) (rs : List Row) → Each (Follows n m As) [] rs → All (λ r. r.owner < length As) rs
  follows_known As rs h = each_all (λ r. r.owner < length As) [] rs (each_like (Follows n m As) (λ before r. r.owner < length As) (λ before r g. g.0) [] rs h)

  pub follows_settled : (As : List Automaton) (rs : List Row) → Each (Follows n m As) [] rs → Settled rs
  follows_settled As rs h = unfallen_settled [] rs (each_like (Follows n m As) Unfallen (λ before r g. g.1) [] rs h)

  follows_owned : (As : List Automaton) (rs : List Row) → Each (Follows n m As) [] rs → All (Owned (TransitionFormed n m) As) rs
  follows_owned As rs h = each_all (Owned (TransitionFormed n m) As) [] rs (each_like (Follows n m As) (λ before r. Owned (TransitionFormed n m) As r) (λ before r g. g.2) [] rs h)

  rows_follow : (As : List Automaton) (rs : List Row) → All (λ r. r.owner < length As) rs → Settled rs → All (Owned (TransitionFormed n m) As) rs → Each (Follows n m As) [] rs
  rows_follow As rs known settled owned =
      let low : Each Unfallen [] rs = settled_unfallen [] rs (all_like (λ r. r.owner < length As) (Unfallen []) (λ r g. omega arith) rs known) settled in
      let two = each_both Unfallen (λ before r. Owned (TransitionFormed n m) As r) [] rs low (all_each (Owned (TransitionFormed n m) As) [] rs owned) in
      let three = each_both (λ before r. r.owner < length As) (λ before r. Unfallen before r × Owned (TransitionFormed n m) As r) [] rs (all_each (λ r. r.owner < length As) [] rs known) two in
      each_like (λ before r. (r.owner < length As) × (Unfallen before r × Owned (TransitionFormed n m) As r)) (Follows n m As) (λ before r g. (g.0, g.1.0, g.1.1)) [] rs three

  automata_follow : (As : List Automaton) → All (AutomatonFormed n m) As → Each (Follows n m (map stripped As)) [] (rows_from 0 As)
  automata_follow As h =
      rows_follow (map stripped As) (rows_from 0 As) (rows-high 0 (length (map stripped As)) As (omega (arith, length-map As stripped))) (rows_settled 0 As)
      (rows_hold (TransitionFormed n m) As (whole_automata As h))

-- a system of its parts
again : (S : System) → S ≡ record { kinds = S.kinds; variables = S.variables; automata = assembled 0 (map stripped S.automata) (rows S) }
again S = ap (λ As. record { kinds = S.kinds; variables = S.variables; automata = As }) (sym (assembled-rows 0 S.automata))

pub codec_file : Codec file encode WellFormed
unfolding file
codec_file =
    codec_as encode WellFormed
    (codec_then events _ _ _ _ _ (λ S. S.kinds) codec_events (λ ks p.
    codec_then variables _ _ _ _ _ (λ S. S.variables) codec_variables (λ vs p.
    codec_then (heads (length ks)) _ _ _ _ _ (λ S. map stripped S.automata) (codec_heads (length ks)) (λ As p.
    codec_then (transitions (length ks) (length vs) As) _ _ _ _ _ rows (codec_transitions (length ks) (length vs) As) (λ rs p. codec_done _)
    (λ rs S p q. ap rows q ∙ rows-assembled As rs (follows_known (length ks) (length vs) As rs p.1) (follows_settled (length ks) (length vs) As rs p.1)))
    (λ As S p q. ap (λ T. map stripped T.automata) q.1 ∙ stripped_assembled 0 As (rows S) (all_like (λ A. HeadFormed (length ks) A × (A.transitions ≡ [])) (λ A. A.transitions ≡ []) (λ A g. g.1) As p.2)))
    (λ vs S p q. ap (λ T. T.variables) q.1.1)) (λ ks S p q. ap (λ T. T.kinds) q.1.1.1))
    (λ S h.
    let n = length S.kinds in
    let m = length S.variables in
    let As = S.automata in
    let long : length (map stripped As) ≡ length As = length-map As stripped in
    let few = h.1.1.0 in
    record {
      some_event = h.0.0;
      events = h.0.1;
      few_variables = h.1.0.0;
      variables = h.1.0.1;
      some_automaton = omega (arith, few.0);
      few_automata = omega (arith, few.1);
      automata = automata_formed n m As few.2 (hold_rows (TransitionFormed n m) As (follows_owned n m (map stripped As) (rows S) h.1.1.1.0.1));
      few_transitions = h.1.1.1.0.0;
    })
    (λ S h.
    let n = length S.kinds in
    let m = length S.variables in
    let As = S.automata in
    let long : length (map stripped As) ≡ length As = length-map As stripped in (
      (h.some_event, h.events),
      (
        (h.few_variables, h.variables),
        (
          (omega (arith, h.some_automaton), omega (arith, h.few_automata), bare_automata n m As h.automata),
          ((h.few_transitions, automata_follow n m As h.automata), again S),
        ),
      ),
    ))
    (λ S h.
    ap (λ xs. events_bytes S.kinds ++ (variables_bytes S.variables ++ (automata_bytes (map stripped S.automata) ++ xs))) (append-nil (rows_bytes (rows S)))
    ∙ ap (λ xs. events_bytes S.kinds ++ (variables_bytes S.variables ++ (xs ++ rows_bytes (rows S)))) (automata_stripped S.automata))

-- a well-formed system is read from its encoding
stands_whole : (s : List ℕ) → Stands s 0 s
stands_whole s = stands_front s 0 s [] (sym (append-nil s))

pub file-encoded : (S : System) → WellFormed S → run file (encode S) 0 ≡ good S (length (encode S))
file-encoded S formed = codec_file.complete (encode S) 0 S formed (stands_whole (encode S)) ∙ ap (good S) (omega arith)

pub one_system : (S T : System) → WellFormed S → WellFormed T → encode S ≡ encode T → S ≡ T
one_system S T formed also same =
    let a : run file (encode S) 0 ≡ good S (length (encode S)) = file-encoded S formed in
    let b : run file (encode T) 0 ≡ good T (length (encode T)) = file-encoded T also in
    let c : run file (encode S) 0 ≡ run file (encode T) 0 = ap (λ s. run file s 0) same in
    cc

-- what is read up to the end of the file
read_whole : (s : List ℕ) (S : System) (end : ℕ) (m : Out System) → nothing_follows s m ≡ good S end → (m ≡ good S end) × (length s ≤ end)
read_whole s S end (good T stop) is = elim (cases_Bool (ltb stop (length s))) [
  | inl more ↦ absurd (let e = sym (cond-true _ _ _ more) ∙ is in let z : ◌≡◌ {A = ℕ} 0 1 = cc in omega arith)
  | inr none ↦
      let e : good T stop ≡ good S end = sym (cond-false _ _ _ none) ∙ is in
      let q : stop ≡ end = cc in
      (e, omega (arith, ltb-false stop (length s) none))
]
read_whole s S end (bad f) is = absurd (let z : ◌≡◌ {A = ℕ} 0 1 = cc in omega arith)

pub accepted_encodes : (s : List ℕ) → Bytes s → (S : System) (end : ℕ) → answer s ≡ good S end → WellFormed S × (encode S ≡ s)
unfolding answer
accepted_encodes s bytes S end is =
    let w = read_whole s S end (run file s 0) is in
    let r = codec_file.sound s bytes 0 S end w.0 in
    let past : length s ≤ 0 + length (encode S) = omega (arith, w.1, r.ends) in
    let e : s ≡ encode S ++ drop (0 + length (encode S)) s = r.stands.is in
    (r.holds, sym (e ∙ ap (λ xs. encode S ++ xs) (drop_all (0 + length (encode S)) s past) ∙ append-nil (encode S)))

pub encodes_accepted : (S : System) → WellFormed S → answer (encode S) ≡ good S (length (encode S))
unfolding answer
encodes_accepted S formed = ap (nothing_follows (encode S)) (file-encoded S formed) ∙ cond-false _ _ _ (le-ltb (length (encode S)) (length (encode S)) (omega arith))
