-- Where the automata's rows begin, as they are found one after another.
use Rattle.std.proofs.Common.{◌≡◌, ℕ, suc, ◌+◌, ◌<◌, List, [], ◌∷◌, ◌++◌, length, get_or, set, Ok, Err, sym, ap, ◌∙◌, subst, inl, inr, arith}
use Rattle.std.proofs.lemmas.List.{length_push, get_or_push, get_or_append_left, get_or-set_same, get_or-set_other}
use Rattle.std.proofs.lemmas.Bool.{cases_eq}
use Rattle.scan.specs.declared.refusal.Origin.{Origin}
use Rattle.scan.specs.declared.refusal.Section.TheVariants.{Automata}
use Rattle.scan.specs.declared.refusal.Fault.{Fault}
use Rattle.scan.specs.Scan.{Scan, good, bad, run, counted}
use Rattle.scan.specs.Says.{Says, Next}
use Rattle.scan.specs.Stands.{Stands, Bytes}
use Rattle.scan.proofs.Runs.{byte_bad, byte_read}
use Rattle.scan.proofs.Loops.{Going, going_none, going_more, going_bad}
use Rattle.system.specs.System.{Automaton, idle}
use Rattle.system.specs.Encode.{head_bytes}
use Rattle.system.specs.Scan.{origin, row_after, head_row, heads}
use Rattle.system.specs.Heads.{HeadsAt}
use Rattle.system.proofs.Sections.{same_row}
use Rattle.system.proofs.HeadRows.{codec_head}

-- one row more
pub heads-more : (s rows : List ℕ) (As : List Automaton) (A : Automaton) (k at : ℕ) → length As ≡ k → k < length rows → HeadsAt s rows As → Stands s at (head_bytes A) → HeadsAt s (set rows k at) (As ++ A ∷ [])
heads-more s rows As A k at count room h here = record {
  begin = λ j under.
      elim (cases_eq j k) [
        | inl same ↦
            let e : get_or (set rows k at) j 0 ≡ at = ap (λ i. get_or (set rows k at) i 0) same ∙ get_or-set_same rows k at 0 room in
            let q : get_or (As ++ A ∷ []) j idle ≡ A = get_or_push As A idle j (count ∙ sym same) in
            rw (e, q) here
        | inr other ↦
            let below : j < length As = omega (arith, length_push As A) in
            let e : get_or (set rows k at) j 0 ≡ get_or rows j 0 = get_or-set_other rows k j at 0 other in
            let q : get_or (As ++ A ∷ []) j idle ≡ get_or As j idle = get_or_append_left As (A ∷ []) idle j below in
            rw (e, q) (h.begin j below)
      ];
}

module _ (s : List ℕ) (n at : ℕ) where
  abbrev pub head_at : List Automaton → Scan Automaton
  head_at before = head_row n (row_after Automata before)

  abbrev pub HeadsGoing : List ℕ → ℕ → ℕ → ℕ → Type 0
  HeadsGoing rows count k end = Going (HeadsAt s rows) head_at s (run (heads n) s at) count k end

  pub heads_bad : (o : Origin) (f : Fault) → o ≡ origin Automata 0 → Says (Next at) (Err f) (run (counted o 1 12) s at) → run (heads n) s at ≡ bad f
  unfolding heads
  heads_bad o f is says = byte_bad _ _ s at f (subst (λ x. Says (Next at) (Err f) (run (counted x 1 12) s at)) is says)

  pub heads_begin : (o : Origin) (count : ℕ) (rows : List ℕ) → o ≡ origin Automata 0 → Says (Next at) (Ok count) (run (counted o 1 12) s at) → HeadsGoing rows count 0 (at + 1)
  unfolding heads
  heads_begin o count rows is says =
      going_none head_at s (HeadsAt s rows) (run (heads n) s at) count (at + 1)
      (byte_read _ _ s at count (subst (λ x. Says (Next at) (Ok count) (run (counted x 1 12) s at)) is says)) (record { begin = λ k under. absurd (let z : ⊥ = omega arith in z) })

  pub head_bad : (rows : List ℕ) (count k end : ℕ) (o : Origin) (f : Fault) → k < count → o ≡ origin Automata (suc k) → HeadsGoing rows count k end → run (head_row n o) s end ≡ bad f → run (heads n) s at ≡ bad f
  head_bad rows count k end o f under is g bad' =
      going_bad head_at s _ _ count k end f under g
      (subst (λ x. run (head_row n x) s end ≡ bad f) (same_row Automata g.before k o g.count is) bad')

  pub head_read : Bytes s → (rows : List ℕ) (count k end : ℕ) (o : Origin) (stop : ℕ) → k < count → k < length rows → o ≡ origin Automata (suc k) → HeadsGoing rows count k end → Says (λ x A e. x ≡ e) (Ok stop) (run (head_row n o) s end) → HeadsGoing (set rows k end) count (k + 1) stop
  head_read bytes rows count k end o stop under room is g says =
      let w = says.agree in
      let A = w.value in
      let read : run (head_row n o) s end ≡ good A stop = w.is ∙ ap (good A) (sym w.holds) in
      going_more head_at s _ (HeadsAt s (set rows k end)) _ count k end stop under g A
      (subst (λ x. run (head_row n x) s end ≡ good A stop) (same_row Automata g.before k o g.count is) read)
      (heads-more s rows g.before A k end g.count room g.holds ((codec_head n o).sound s bytes end A stop read).stands)
