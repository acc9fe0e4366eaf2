-- The scanner of the transitions reads exactly at most 512 well-formed rows, by automaton, behind their count.
use Rattle.std.proofs.Common.{◌≡◌, ℕ, suc, ◌<◌, ◌≤◌, true, eqb, ltb, leb, List, [], ◌∷◌, ◌++◌, map, length, get_or, refl, ap, inl, inr, arith}
use Rattle.std.proofs.lemmas.List.{append-nil}
use Rattle.std.proofs.lemmas.Bool.{ltb-true, leb-true, lt-ltb, le-leb, eqb-true, eq-eqb, or_cases, or_left, or_right, false≢true}
use Rattle.std.specs.List.{flat_map}
use Rattle.scan.specs.declared.refusal.Origin.{Origin}
use Rattle.scan.specs.declared.refusal.Section.TheVariants.{Transitions}
use Rattle.scan.specs.declared.refusal.FileRule.TheVariants.{CountLimits, KnownNumber, RisingOrder, InAlphabet}
use Rattle.scan.specs.Scan.{numbered, pair}
use Rattle.scan.specs.Stands.{Each}
use Rattle.scan.proofs.Codecs.{Codec, codec_as, codec_same, codec_then, codec_when, codec_ask, codec_done, codec_numbered, codec_pair, codec_collect, codec_listed}
use Rattle.expr.specs.Expr.{guard, term}
use Rattle.expr.specs.Scan.{sized}
use Rattle.expr.specs.Sized.{sized_bytes}
use Rattle.expr.proofs.Sizes.{codec_sized}
use Rattle.system.specs.System.{Update, Automaton, Row, idle}
use Rattle.system.specs.Formed.{All, In, Rising, UpdateFormed, TransitionFormed}
use Rattle.system.specs.Encode.{update_bytes, transition_bytes, row_bytes, rows_bytes}
use Rattle.system.specs.Scan.{origin, row_after, bound, rising, is_in, owner, event_in, update, updates, transition, transition_row, few_rows, transitions}
use Rattle.system.proofs.Eaches.{each_like, each_both, each_all, all_each, each_map, map_each, bound-rising, rising-bound}
use Rattle.system.proofs.HeadRows.{codec_rising}

pub in_test : (e : ℕ) (xs : List ℕ) → is_in e xs ≡ true → In e xs
in_test e [] h = absurd (false≢true h)
in_test e (x ∷ xs) h = elim (or_cases (eqb e x) (is_in e xs) h) [
  | inl here ↦ inl (eqb-true e x here)
  | inr there ↦ inr (in_test e xs there)
]

pub test_in : (e : ℕ) (xs : List ℕ) → In e xs → is_in e xs ≡ true
test_in e [] h = absurd h
test_in e (x ∷ xs) (inl here) = or_left (eqb e x) (is_in e xs) (eq-eqb e x here)
test_in e (x ∷ xs) (inr there) = or_right (eqb e x) (is_in e xs) (test_in e xs there)

pub codec_owner : (o : Origin) (n floor : ℕ) → Codec (owner o n floor) (λ k. k ∷ []) (λ k. (k < n) × (floor ≤ suc k))
unfolding owner
codec_owner o n floor =
    codec_same (λ k. (k < n) × (floor ≤ suc k))
    (codec_ask o _ _ _ (λ k. k) (λ k. codec_when (ltb k n) o KnownNumber (codec_when (leb floor (suc k)) o RisingOrder (codec_done k))) (λ x y q. q.1.1))
    (λ k h. (ltb-true k n h.0, leb-true floor (suc k) h.1.0)) (λ k h. (lt-ltb k n h.0, (le-leb floor (suc k) h.1, refl)))

pub codec_event_in : (o : Origin) (n : ℕ) (alphabet : List ℕ) → Codec (event_in o n alphabet) (λ e. e ∷ []) (λ e. (e < n) × In e alphabet)
unfolding event_in
codec_event_in o n alphabet =
    codec_same (λ e. (e < n) × In e alphabet)
    (codec_ask o _ _ _ (λ e. e) (λ e. codec_when (ltb e n) o KnownNumber (codec_when (is_in e alphabet) o InAlphabet (codec_done e))) (λ x y q. q.1.1))
    (λ e h. (ltb-true e n h.0, in_test e alphabet h.1.0)) (λ e h. (lt-ltb e n h.0, (test_in e alphabet h.1, refl)))

module _ (o : Origin) (n : ℕ) where
  pub codec_update : (floor : ℕ) → Codec (update o n floor) update_bytes (λ u. UpdateFormed n u × (floor ≤ u.variable))
  unfolding update
  codec_update floor =
      codec_as update_bytes (λ u. UpdateFormed n u × (floor ≤ u.variable))
      (codec_then (rising o n floor) _ _ _ _ _ (λ u. u.variable) (codec_rising o n floor) (λ v p.
      codec_then (sized n o term) _ _ _ _ _ (λ u. u.value) (codec_sized n o term) (λ e p. codec_done _)
      (λ x u p q. ap (λ w. w.value) q)) (λ x u p q. ap (λ w. w.variable) q.1))
      (λ u h. (record { known = h.0.0; value = h.1.0 }, h.0.1))
      (λ u h. ((h.0.known, h.1), (h.0.value, refl)))
      (λ u h. ap (λ xs. u.variable ∷ xs) (append-nil (sized_bytes u.value)))

  -- updates whose variables rise
  abbrev Next : List Update → Update → Type 0
  Next before u = UpdateFormed n u × (bound (map (λ w. w.variable) before) ≤ u.variable)

  next_rising : (us : List Update) → Each Next [] us → All (UpdateFormed n) us × Rising (map (λ u. u.variable) us)
  next_rising us h = (
    each_all (UpdateFormed n) [] us (each_like Next (λ before u. UpdateFormed n u) (λ before u g. g.0) [] us h),
    bound-rising _ (each_map (λ u. u.variable) (λ before x. bound before ≤ x) [] us (each_like Next (λ before u. bound (map (λ w. w.variable) before) ≤ u.variable) (λ before u g. g.1) [] us h)),
  )

  rising_next : (us : List Update) → All (UpdateFormed n) us → Rising (map (λ u. u.variable) us) → Each Next [] us
  rising_next us h g =
      each_both (λ before u. UpdateFormed n u) (λ before u. bound (map (λ w. w.variable) before) ≤ u.variable) [] us (all_each (UpdateFormed n) [] us h)
      (map_each (λ u. u.variable) (λ before x. bound before ≤ x) [] us (rising-bound _ g))

  pub codec_updates : Codec (updates o n) (λ us. length us ∷ flat_map update_bytes us) (λ us. (length us ≤ 12) × All (UpdateFormed n) us × Rising (map (λ u. u.variable) us))
  unfolding updates
  codec_updates =
      codec_same (λ us. (length us ≤ 12) × All (UpdateFormed n) us × Rising (map (λ u. u.variable) us))
      (codec_listed o 0 12 (λ before. update o n (bound (map (λ u. u.variable) before))) update_bytes Next (λ before. codec_update (bound (map (λ u. u.variable) before))))
      (λ us h. let r = next_rising us h.2 in (h.1, r.0, r.1)) (λ us h. (omega arith, h.0, rising_next us h.1 h.2))

module _ (o : Origin) (n m : ℕ) where
  pub codec_transition : (A : Automaton) → Codec (transition o n m A) transition_bytes (TransitionFormed n m A)
  unfolding transition
  codec_transition A =
      codec_as transition_bytes (TransitionFormed n m A)
      (codec_then (numbered o (length A.marks)) _ _ _ _ _ (λ t. t.from) (codec_numbered o (length A.marks)) (λ from p.
      codec_then (event_in o n A.alphabet) _ _ _ _ _ (λ t. t.event) (codec_event_in o n A.alphabet) (λ event p.
      codec_then (numbered o (length A.marks)) _ _ _ _ _ (λ t. t.to) (codec_numbered o (length A.marks)) (λ to p.
      codec_then (sized m o guard) _ _ _ _ _ (λ t. t.guard) (codec_sized m o guard) (λ g p.
      codec_then (updates o m) _ _ _ _ _ (λ t. t.updates) (codec_updates o m) (λ us p. codec_done _)
      (λ x t p q. ap (λ w. w.updates) q)) (λ x t p q. ap (λ w. w.guard) q.1)) (λ x t p q. ap (λ w. w.to) q.1.1)) (λ x t p q. ap (λ w. w.event) q.1.1.1)) (λ x t p q. ap (λ w. w.from) q.1.1.1.1))
      (λ t h. record {
        from = h.0;
        event = h.1.0.0;
        in_alphabet = h.1.0.1;
        to = h.1.1.0;
        guard = h.1.1.1.0;
        few_updates = h.1.1.1.1.0.0;
        updates = h.1.1.1.1.0.1;
        rising = h.1.1.1.1.0.2;
      })
      (λ t h. (h.from, ((h.event, h.in_alphabet), (h.to, (h.guard, ((h.few_updates, h.updates, h.rising), refl))))))
      (λ t h. ap (λ xs. t.from ∷ (t.event ∷ (t.to ∷ (sized_bytes t.guard ++ (length t.updates ∷ xs))))) (append-nil (flat_map update_bytes t.updates)))

  -- a row of one of the automata, whose number does not fall below a floor
  pub codec_row : (As : List Automaton) (floor : ℕ) → Codec (transition_row o n m As floor) row_bytes (λ r. (r.owner < length As) × (floor ≤ suc r.owner) × TransitionFormed n m (get_or As r.owner idle) r.transition)
  unfolding transition_row
  codec_row As floor =
      codec_as row_bytes (λ r. (r.owner < length As) × (floor ≤ suc r.owner) × TransitionFormed n m (get_or As r.owner idle) r.transition)
      (codec_then (owner o (length As) floor) _ _ _ _ _ (λ r. r.owner) (codec_owner o (length As) floor) (λ k p.
      codec_then (transition o n m (get_or As k idle)) _ _ _ _ _ (λ r. r.transition) (codec_transition (get_or As k idle)) (λ t p. codec_done _)
      (λ x r p q. ap (λ w. w.transition) q)) (λ x r p q. ap (λ w. w.owner) q.1))
      (λ r h. (h.0.0, h.0.1, h.1.0))
      (λ r h. ((h.0, h.1), (h.2, refl)))
      (λ r h. ap (λ xs. r.owner ∷ xs) (append-nil (transition_bytes r.transition)))

-- a row after those before it
abbrev pub Follows : ℕ → ℕ → List Automaton → List Row → Row → Type 0
Follows n m As before r = (r.owner < length As) × (bound (map (λ q. q.owner) before) ≤ suc r.owner) × TransitionFormed n m (get_or As r.owner idle) r.transition

pub codec_few_rows : (o : Origin) (count : ℕ) → Codec (few_rows o count) (λ k. []) (λ k. (count ≤ 512) × (k ≡ count))
unfolding few_rows
codec_few_rows o count =
    codec_same (λ k. (count ≤ 512) × (k ≡ count)) (codec_when (leb count 512) o CountLimits (codec_done count))
    (λ k h. (leb-true count 512 h.0, h.1)) (λ k h. (le-leb count 512 h.0, h.1))

pub codec_transitions : (n m : ℕ) (As : List Automaton) → Codec (transitions n m As) rows_bytes (λ rs. (length rs ≤ 512) × Each (Follows n m As) [] rs)
unfolding transitions
codec_transitions n m As =
    codec_same (λ rs. (length rs ≤ 512) × Each (Follows n m As) [] rs)
    (codec_then (pair (origin Transitions 0)) _ _ _ _ _ length (codec_pair (origin Transitions 0)) (λ count p.
    codec_then (few_rows (origin Transitions 0) count) _ _ _ _ _ length (codec_few_rows (origin Transitions 0) count) (λ k p.
    codec_collect (λ before. transition_row (row_after Transitions before) n m As (bound (map (λ r. r.owner) before))) row_bytes (Follows n m As)
    (λ before. codec_row (row_after Transitions before) n m As (bound (map (λ r. r.owner) before))) k)
    (λ k rs p q. q.0)) (λ count rs p q. q.0.1))
    (λ rs h. (h.1.0.0, h.1.1.1)) (λ rs h. (omega arith, ((h.0, refl), (refl, h.1))))
