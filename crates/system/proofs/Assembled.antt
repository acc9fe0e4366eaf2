-- Automata and their rows: taken apart and put together again.
use Rattle.std.proofs.Common.{◌≡◌, ℕ, suc, ◌+◌, ◌<◌, ◌≤◌, max, List, [], ◌∷◌, ◌++◌, map, length, get_or, sym, refl, ap, ◌∙◌, subst, inl, inr, arith, length-append}
use Rattle.std.proofs.lemmas.List.{append-nil, append_assoc, get_or_at, map-append}
use Rattle.std.proofs.lemmas.Bool.{eq-eqb, ne_eqb, cases_eq, cond-true, cond-false}
use Rattle.scan.specs.Stands.{Each}
use Rattle.system.specs.System.{Transition, Automaton, Row, idle, rows_from}
use Rattle.system.specs.Formed.{All}
use Rattle.system.specs.Scan.{bound, owned, assembled}
use Rattle.system.proofs.Eaches.{all_like, all_both, all_append, all_split, bound-append}

-- an automaton without its transitions
abbrev pub stripped : Automaton → Automaton
stripped A = record { role = A.role; start = A.start; marks = A.marks; alphabet = A.alphabet; transitions = [] }

abbrev row_of : ℕ → Transition → Row
row_of k t = record { owner = k; transition = t }

-- what rows have for an automaton
owned-here : (k : ℕ) (r : Row) (rs : List Row) → r.owner ≡ k → owned k (r ∷ rs) ≡ r.transition ∷ owned k rs
owned-here k r rs h = cond-true _ _ _ (eq-eqb r.owner k h)

owned-other : (k : ℕ) (r : Row) (rs : List Row) → (r.owner ≡ k → ⊥) → owned k (r ∷ rs) ≡ owned k rs
owned-other k r rs h = cond-false _ _ _ (ne_eqb r.owner k h)

owned-none : (k : ℕ) (rs : List Row) → All (λ r. k < r.owner) rs → owned k rs ≡ []
owned-none k [] h = refl
owned-none k (r ∷ rs) h = let a : k < r.owner = h.0 in owned-other k r rs (λ e. omega arith) ∙ owned-none k rs h.1

-- a row of an earlier automaton adds nothing
assembled-skip : (k : ℕ) (As : List Automaton) (r : Row) (rs : List Row) → r.owner < k → assembled k As (r ∷ rs) ≡ assembled k As rs
assembled-skip k [] r rs h = refl
assembled-skip k (A ∷ As) r rs h =
    let e : owned k (r ∷ rs) ≡ owned k rs = owned-other k r rs (λ e. omega arith) in
    let f : assembled (suc k) As (r ∷ rs) ≡ assembled (suc k) As rs = assembled-skip (suc k) As r rs (omega arith) in
    rw (e, f)

-- 1. From rows to automata and back
-- no owner is above a later one
abbrev pub Settled : List Row → Type 0
Settled [] = Unit {0}
Settled (r ∷ rs) = All (λ q. r.owner ≤ q.owner) rs × Settled rs

rows_none : (k : ℕ) (As : List Automaton) → rows_from k (assembled k As []) ≡ []
rows_none k [] = refl
rows_none k (A ∷ As) = rows_none (suc k) As

-- the first row comes first
rows-first : (k : ℕ) (As : List Automaton) (r : Row) (rs : List Row) → k ≤ r.owner → r.owner < k + length As → All (λ q. r.owner ≤ q.owner) rs → rows_from k (assembled k As (r ∷ rs)) ≡ r ∷ rows_from k (assembled k As rs)
rows-first k [] r rs low high h = absurd (let z : ⊥ = omega arith in z)
rows-first k (A ∷ As) r rs low high h = elim (cases_eq r.owner k) [
  | inl here ↦
      let e : owned k (r ∷ rs) ≡ r.transition ∷ owned k rs = owned-here k r rs here in
      let f : assembled (suc k) As (r ∷ rs) ≡ assembled (suc k) As rs = assembled-skip (suc k) As r rs (omega arith) in
      rw (e, f) (ap (λ j. record { owner = j; transition = r.transition } ∷ (map (row_of k) (owned k rs) ++ rows_from (suc k) (assembled (suc k) As rs))) (sym here))
  | inr later ↦
      let above : k < r.owner = omega arith in
      let e : owned k (r ∷ rs) ≡ owned k rs = owned-other k r rs later in
      let f : owned k rs ≡ [] = owned-none k rs (all_like (λ q. r.owner ≤ q.owner) (λ q. k < q.owner) (λ q g. omega arith) rs h) in
      rw (e, f) (rows-first (suc k) As r rs (omega arith) (omega arith) h)
]

pub rows-assembled : (As : List Automaton) (rs : List Row) → All (λ r. r.owner < length As) rs → Settled rs → rows_from 0 (assembled 0 As rs) ≡ rs
rows-assembled As [] h g = rows_none 0 As
rows-assembled As (r ∷ rs) h g =
    let a : r.owner < length As = h.0 in
    rows-first 0 As r rs (omega arith) (omega arith) g.0 ∙ ap (λ qs. r ∷ qs) (rows-assembled As rs h.1 g.1)

stripped_none : (A : Automaton) → A.transitions ≡ [] → stripped A ≡ A
stripped_none A e = ap (λ ts. record { role = A.role; start = A.start; marks = A.marks; alphabet = A.alphabet; transitions = ts }) (sym e)

pub stripped_assembled : (k : ℕ) (As : List Automaton) (rs : List Row) → All (λ A. A.transitions ≡ []) As → map stripped (assembled k As rs) ≡ As
stripped_assembled k [] rs h = refl
stripped_assembled k (A ∷ As) rs h =
    let e = stripped_none A h.0 in
    let f = stripped_assembled (suc k) As rs h.1 in
    ap (λ B. B ∷ map stripped (assembled (suc k) As rs)) e ∙ ap (λ Bs. A ∷ Bs) f

-- 2. From automata to rows and back
rows-low : (j k : ℕ) (As : List Automaton) → j ≤ k → All (λ r. j ≤ r.owner) (rows_from k As)
rows-low j k [] h = tt
rows-low j k (A ∷ As) h = all_append (λ r. j ≤ r.owner) _ _ (own A.transitions) (rows-low j (suc k) As (omega arith))
  where
    own : (ts : List Transition) → All (λ r. j ≤ r.owner) (map (row_of k) ts)
    own [] = tt
    own (t ∷ ts) = (h, own ts)

pub rows-high : (k n : ℕ) (As : List Automaton) → k + length As ≤ n → All (λ r. r.owner < n) (rows_from k As)
rows-high k n [] h = tt
rows-high k n (A ∷ As) h = all_append (λ r. r.owner < n) _ _ (own A.transitions) (rows-high (suc k) n As (omega arith))
  where
    own : (ts : List Transition) → All (λ r. r.owner < n) (map (row_of k) ts)
    own [] = tt
    own (t ∷ ts) = (omega arith, own ts)

owned-own : (k : ℕ) (ts : List Transition) (rs : List Row) → owned k (map (row_of k) ts ++ rs) ≡ ts ++ owned k rs
owned-own k [] rs = refl
owned-own k (t ∷ ts) rs = owned-here k (row_of k t) (map (row_of k) ts ++ rs) refl ∙ ap (λ us. t ∷ us) (owned-own k ts rs)

assembled-after : (k : ℕ) (As : List Automaton) (ts : List Transition) (rs : List Row) → assembled (suc k) As (map (row_of k) ts ++ rs) ≡ assembled (suc k) As rs
assembled-after k As [] rs = refl
assembled-after k As (t ∷ ts) rs = assembled-skip (suc k) As (row_of k t) (map (row_of k) ts ++ rs) (omega arith) ∙ assembled-after k As ts rs

pub assembled-rows : (k : ℕ) (As : List Automaton) → assembled k (map stripped As) (rows_from k As) ≡ As
assembled-rows k [] = refl
assembled-rows k (A ∷ As) =
    let rest = rows_from (suc k) As in
    let own = map (row_of k) A.transitions in
    let e : owned k (own ++ rest) ≡ A.transitions = owned-own k A.transitions rest ∙ ap (λ ts. A.transitions ++ ts) (owned-none k rest (rows-low (suc k) (suc k) As (omega arith))) ∙ append-nil A.transitions in
    let f : assembled (suc k) (map stripped As) (own ++ rest) ≡ As = assembled-after k (map stripped As) A.transitions rest ∙ assembled-rows (suc k) As in
    ap (λ ts. record { role = A.role; start = A.start; marks = A.marks; alphabet = A.alphabet; transitions = ts } ∷ assembled (suc k) (map stripped As) (own ++ rest)) e
    ∙ ap (λ Bs. A ∷ Bs) f

settled_own : (k : ℕ) (ts : List Transition) (rs : List Row) → All (λ r. k ≤ r.owner) rs → Settled rs → All (λ r. k ≤ r.owner) (map (row_of k) ts ++ rs) × Settled (map (row_of k) ts ++ rs)
settled_own k [] rs h g = (h, g)
settled_own k (t ∷ ts) rs h g = let r = settled_own k ts rs h g in ((omega arith, r.0), (r.0, r.1))

pub rows_settled : (k : ℕ) (As : List Automaton) → Settled (rows_from k As)
rows_settled k [] = tt
rows_settled k (A ∷ As) = (settled_own k A.transitions (rows_from (suc k) As) (rows-low k (suc k) As (omega arith)) (rows_settled (suc k) As)).1

-- 3. Owners that do not fall below those before them
abbrev owners : List Row → List ℕ
owners rs = map (λ r. r.owner) rs

abbrev pub Unfallen : List Row → Row → Type 0
Unfallen before r = bound (owners before) ≤ suc r.owner

bound-more : (before : List Row) (r : Row) → bound (owners (before ++ r ∷ [])) ≡ max (bound (owners before)) (suc r.owner)
bound-more before r =
    let e : owners (before ++ r ∷ []) ≡ owners before ++ owners (r ∷ []) = map-append (λ q. q.owner) before (r ∷ []) in
    let f = bound-append (owners before) (owners (r ∷ [])) in
    ap bound e ∙ f ∙ ap (λ j. max (bound (owners before)) j) (omega arith)

later_high : (j : ℕ) (before rs : List Row) → j < bound (owners before) → Each Unfallen before rs → All (λ q. j ≤ q.owner) rs
later_high j before [] low h = tt
later_high j before (r ∷ rs) low h =
    let a : bound (owners before) ≤ suc r.owner = h.0 in
    (omega arith, later_high j (before ++ r ∷ []) rs (omega (arith, bound-more before r)) h.1)

pub unfallen_settled : (before rs : List Row) → Each Unfallen before rs → Settled rs
unfallen_settled before [] h = tt
unfallen_settled before (r ∷ rs) h = (later_high r.owner (before ++ r ∷ []) rs (omega (arith, bound-more before r)) h.1, unfallen_settled (before ++ r ∷ []) rs h.1)

pub settled_unfallen : (before rs : List Row) → All (Unfallen before) rs → Settled rs → Each Unfallen before rs
settled_unfallen before [] h g = tt
settled_unfallen before (r ∷ rs) h g =
    (h.0, settled_unfallen (before ++ r ∷ []) rs (all_like (λ q. Unfallen before q × (r.owner ≤ q.owner)) (Unfallen (before ++ r ∷ [])) (λ q f. omega (arith, bound-more before r)) rs (all_both (Unfallen before) (λ q. r.owner ≤ q.owner) rs h.1 g.0)) g.1)

-- 4. What holds of each transition of each automaton
module _ (P : Automaton → Transition → Type 0) where
  abbrev pub Owned : List Automaton → Row → Type 0
  Owned As r = P (get_or As r.owner idle) r.transition

  abbrev pub Whole : Automaton → Type 0
  Whole A = All (P (stripped A)) A.transitions

  rows_own : (k : ℕ) (Bs : List Automaton) (A : Automaton) → get_or Bs k idle ≡ A → (ts : List Transition) → All (P A) ts → All (Owned Bs) (map (row_of k) ts)
  rows_own k Bs A e [] h = tt
  rows_own k Bs A e (t ∷ ts) h = (subst (λ B. P B t) (sym e) h.0, rows_own k Bs A e ts h.1)

  own_rows_lem : (k : ℕ) (Bs : List Automaton) (A : Automaton) → get_or Bs k idle ≡ A → (ts : List Transition) → All (Owned Bs) (map (row_of k) ts) → All (P A) ts
  own_rows_lem k Bs A e [] h = tt
  own_rows_lem k Bs A e (t ∷ ts) h = (subst (λ B. P B t) e h.0, own_rows_lem k Bs A e ts h.1)

  rows_from_lem : (k : ℕ) (front As : List Automaton) → length front ≡ k → All Whole As → All (Owned (front ++ map stripped As)) (rows_from k As)
  rows_from_lem k front [] long h = tt
  rows_from_lem k front (A ∷ As) long h =
      let e : (front ++ stripped A ∷ []) ++ map stripped As ≡ front ++ stripped A ∷ map stripped As = append_assoc front (stripped A ∷ []) (map stripped As) in
      let more = rows_from_lem (suc k) (front ++ stripped A ∷ []) As (length-append front (stripped A ∷ []) ∙ omega arith) h.1 in
      all_append (Owned (front ++ stripped A ∷ map stripped As)) _ _
      (rows_own k _ (stripped A) (get_or_at front (stripped A) (map stripped As) idle k long) A.transitions h.0)
      (subst (λ Bs. All (Owned Bs) (rows_from (suc k) As)) e more)

  from_rows : (k : ℕ) (front As : List Automaton) → length front ≡ k → All (Owned (front ++ map stripped As)) (rows_from k As) → All Whole As
  from_rows k front [] long h = tt
  from_rows k front (A ∷ As) long h =
      let e : (front ++ stripped A ∷ []) ++ map stripped As ≡ front ++ stripped A ∷ map stripped As = append_assoc front (stripped A ∷ []) (map stripped As) in
      let parts = all_split (Owned (front ++ stripped A ∷ map stripped As)) _ _ h in (
        own_rows_lem k _ (stripped A) (get_or_at front (stripped A) (map stripped As) idle k long) A.transitions parts.0,
        from_rows (suc k) (front ++ stripped A ∷ []) As (length-append front (stripped A ∷ []) ∙ omega arith) (subst (λ Bs. All (Owned Bs) (rows_from (suc k) As)) (sym e) parts.1),
      )

  pub rows_hold : (As : List Automaton) → All Whole As → All (Owned (map stripped As)) (rows_from 0 As)
  rows_hold As h = rows_from_lem 0 [] As refl h

  pub hold_rows : (As : List Automaton) → All (Owned (map stripped As)) (rows_from 0 As) → All Whole As
  hold_rows As h = from_rows 0 [] As refl h
