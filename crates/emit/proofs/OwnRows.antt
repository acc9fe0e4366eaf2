-- The rows of one automaton in front of those of the automata after it.
use Rattle.std.proofs.Common.{◌≡◌, ℕ, zero, suc, ◌+◌, ◌<◌, ◌≤◌, Bool, true, false, eqb, None, Some, List, [], ◌∷◌, ◌++◌, length, take, drop, sym, refl, ap, ◌∙◌, subst, inl, inr, arith}
use Rattle.std.specs.List.{flat_map}
use Rattle.std.proofs.lemmas.List.{length-map, drop_at, drop-append-le, drop-drop, drop-map, drop_more, take-append-drop, length-take-le, take_at}
use Rattle.std.proofs.lemmas.Bool.{cases_lt, eq-eqb, ne_eqb, true≢false}
use Rattle.scan.specs.Stands.{Stands}
use Rattle.scan.proofs.Standing.{stands_split}
use Rattle.system.specs.System.{Transition, Automaton, Row, rows_from}
use Rattle.system.specs.Formed.{All}
use Rattle.system.specs.Encode.{row_bytes}
use Rattle.view.specs.declared.parts.Transition.{Transition as Read}
use Rattle.view.specs.declared.rows.Rows.{Rows}
use Rattle.view.specs.Walk.{RowsAt, RowFine}
use Rattle.view.specs.Shown.{RowsOf, NextRow}
use Rattle.translation.specs.Systems.{idle_transition}
use Rattle.emit.specs.Own.{own_rows}
use Rattle.emit.proofs.Sent.{joined-append}

-- there is a first row, and it is automaton k's
abbrev pub owned_by : ℕ → List Row → Bool
owned_by k [] = false
owned_by k (r ∷ rs) = eqb r.owner k

-- rows of another automaton in front of rows that are none of automaton k's
others : (k j : ℕ) (ts : List Transition) (rs : List Row) → k < j → owned_by k rs ≡ false → owned_by k (own_rows j ts ++ rs) ≡ false
others k j [] rs h none = none
others k j (t ∷ ts) rs h none = ne_eqb j k (omega arith)

later : (k j : ℕ) (As : List Automaton) → k < j → owned_by k (rows_from j As) ≡ false
later k j [] h = refl
later k j (A ∷ As) h = others k j A.transitions (rows_from (suc j) As) h (later k (suc j) As (omega arith))

own_first : (k n : ℕ) (ts : List Transition) (rs : List Row) → n < length ts → owned_by k (drop n (own_rows k ts ++ rs)) ≡ true
own_first k n ts rs h =
    let long : n ≤ length (own_rows k ts) = simp length-map (omega arith) in
    ap (owned_by k) (drop-append-le n (own_rows k ts) rs long ∙ ap (λ zs. zs ++ rs) (drop-map _ n ts ∙ ap (own_rows k) (drop_more ts n idle_transition h)))
    ∙ eq-eqb k k refl

own-past : (k : ℕ) (ts : List Transition) (rs : List Row) → drop (length ts) (own_rows k ts ++ rs) ≡ rs
own-past k ts rs = drop_at (own_rows k ts) rs (length ts) (length-map ts _)

-- so many rows of automaton k were seen, and the next is one of it or not
module _ (k n : ℕ) (A : Automaton) (As : List Automaton) (low : n ≤ length A.transitions) where
  pub own_more : owned_by k (drop n (rows_from k (A ∷ As))) ≡ true → n + 1 ≤ length A.transitions
  own_more is =
      elim (cases_lt n (length A.transitions)) [
        | inl under ↦ omega arith
        | inr past ↦
            let all : n ≡ length A.transitions = omega arith in
            absurd (true≢false (sym is ∙ ap (λ i. owned_by k (drop i (rows_from k (A ∷ As)))) all ∙ ap (owned_by k) (own-past k A.transitions (rows_from (suc k) As)) ∙ later k (suc k) As (omega arith)))
      ]

  own_all : owned_by k (drop n (rows_from k (A ∷ As))) ≡ false → n ≡ length A.transitions
  own_all none =
      elim (cases_lt n (length A.transitions)) [
        | inl under ↦ absurd (true≢false (sym (own_first k n A.transitions (rows_from (suc k) As) under) ∙ none))
        | inr past ↦ omega arith
      ]

all_take : (n : ℕ) (rs : List Row) → All RowFine rs → All RowFine (take n rs)
all_take zero rs h = tt
all_take (suc n) [] h = tt
all_take (suc n) (r ∷ rs) h = (h.0, all_take n rs h.1)

-- the first rows alone, and those after them
pub first_rows : (s : List ℕ) (at left n : ℕ) (rs : List Row) → RowsAt s at left rs → n ≤ left → RowsAt s at n (take n rs)
first_rows s at left n rs h low =
    let whole : flat_map row_bytes (take n rs) ++ flat_map row_bytes (drop n rs) ≡ flat_map row_bytes rs = sym (joined-append row_bytes (take n rs) (drop n rs)) ∙ ap (flat_map row_bytes) (take-append-drop n rs) in
    record {
      stands = (stands_split s at (flat_map row_bytes (take n rs)) (flat_map row_bytes (drop n rs)) (subst (Stands s at) (sym whole) h.stands)).0;
      count = length-take-le n rs (omega (arith, h.count));
      fine = all_take n rs h.fine;
    }

module _ (k : ℕ) (A : Automaton) (As : List Automaton) where
  own_front : (n : ℕ) → n ≡ length A.transitions → take n (rows_from k (A ∷ As)) ≡ own_rows k A.transitions
  own_front n e = take_at (own_rows k A.transitions) (rows_from (suc k) As) n (length-map A.transitions _ ∙ sym e)

  own_after : (n : ℕ) → n ≡ length A.transitions → drop n (rows_from k (A ∷ As)) ≡ rows_from (suc k) As
  own_after n e = ap (λ i. drop i (rows_from k (A ∷ As))) e ∙ own-past k A.transitions (rows_from (suc k) As)

-- the first n rows were seen, all of automaton k, and these are left
pub record Seen (rows rest : Rows) (k n : ℕ) : Type 0 where
  pub within : rest.left + n ≡ rows.left
  pub after : (rs : List Row) → RowsOf rows rs → RowsOf rest (drop n rs)
  pub own : (A : Automaton) (As : List Automaton) → RowsOf rows (rows_from k (A ∷ As)) → n ≤ length A.transitions

module _ (rows rest : Rows) (k n : ℕ) (seen : Seen rows rest k n) where
  pub seen_more : (x : Read) (others : Rows) → NextRow rest (Some x) others → others.left + 1 ≡ rest.left → x.owner ≡ k → Seen rows others k (n + 1)
  seen_more x others next fewer owner = record {
    within = omega (arith, seen.within);
    after = λ rs h. let f = next _ (seen.after rs h) in subst (RowsOf others) (sym (ap (drop 1) f.are) ∙ drop-drop 1 n rs) f.rest;
    own = λ A As h.
        let f = next _ (seen.after _ h) in
        own_more k n A As (seen.own A As h) (ap (owned_by k) f.are ∙ eq-eqb f.head.owner k (sym f.first.owner ∙ owner));
  }

  -- no more of them follow
  abbrev pub Past : Type 0
  Past = (rs : List Row) → RowsOf rest rs → owned_by k rs ≡ false

  pub past_none : NextRow rest None rest → Past
  past_none next rs h = ap (owned_by k) (next rs h)

  pub past_other : (x : Read) (others : Rows) → NextRow rest (Some x) others → (x.owner ≡ k → ⊥) → Past
  past_other x others next other rs h = let f = next rs h in ap (owned_by k) f.are ∙ ne_eqb f.head.owner k (λ e. other (f.first.owner ∙ e))

  pub seen_all : Past → (A : Automaton) (As : List Automaton) → RowsOf rows (rows_from k (A ∷ As)) → RowsAt rows.file.now rows.at n (own_rows k A.transitions) × RowsOf rest (rows_from (suc k) As)
  seen_all past A As h =
      let all = own_all k n A As (seen.own A As h) (past _ (seen.after _ h)) in
      (subst (RowsAt rows.file.now rows.at n) (own_front k A As n all) (first_rows rows.file.now rows.at rows.left n _ h (omega (arith, seen.within))), subst (RowsOf rest) (own_after k A As n all) (seen.after _ h))
