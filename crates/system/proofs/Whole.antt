-- What is said of a file, from what is said of its sections.
use Rattle.std.proofs.Common.{◌≡◌, ℕ, zero, suc, ◌+◌, ◌*◌, ◌<◌, ◌≤◌, List, [], ◌∷◌, length, get_or, Ok, Err, Result, sym, refl, ap, ◌∙◌, subst, arith}
use Rattle.std.specs.List.{flat_map}
use Rattle.scan.specs.declared.refusal.Section.TheVariants.{Transitions}
use Rattle.scan.specs.declared.refusal.Fault.{Fault}
use Rattle.scan.specs.declared.refusal.FileFault.TheVariants.{BytesFollow}
use Rattle.scan.specs.Faults.{fault_at}
use Rattle.scan.specs.Scan.{good, bad, run}
use Rattle.scan.specs.Says.{Says}
use Rattle.scan.specs.Stands.{Stands, Bytes, Each, two_bytes}
use Rattle.scan.proofs.Runs.{run-done, run-then, run-fails}
use Rattle.scan.proofs.Codecs.{Read}
use Rattle.scan.proofs.Standing.{stands_split}
use Rattle.system.specs.declared.automata.Heads.{Heads}
use Rattle.system.specs.declared.transitions.Rows.{Rows}
use Rattle.system.specs.System.{EventKind, Variable, Automaton, Row, System, idle, rows}
use Rattle.system.specs.Encode.{head_bytes, row_bytes, rows_bytes}
use Rattle.system.specs.Scan.{origin, events, variables, heads, transitions, assembled, file, answer}
use Rattle.system.specs.Ranges.{VariablesAt}
use Rattle.system.specs.Heads.{HeadsAt}
use Rattle.system.specs.Found.{HeadsFound, RowsFound, HeadsKnown}
use Rattle.system.specs.Shows.{Shows}
use Rattle.system.proofs.HeadParts.{head_fits}
use Rattle.system.proofs.TransitionRows.{Follows, codec_transitions}
use Rattle.system.proofs.Assembled.{rows-assembled}
use Rattle.system.proofs.Files.{accepted_encodes, follows_known, follows_settled}
use Rattle.system.proofs.Verdicts.{answer-bad, answer-more, answer-whole}

-- the code's own rows are all within the file
pub heads-known : (s : List ℕ) (h : Heads) (As : List Automaton) → length As ≡ h.count → h.count ≤ 12 → HeadsAt s h.rows As → HeadsKnown s h
heads-known s h As long few stand = record { few = few; fits = λ k under. head_fits s (get_or h.rows k 0) (get_or As k idle) (stand.begin k (omega arith)) }

-- automata are found where their heads are
pub assembled-heads : (k : ℕ) (As : List Automaton) (rs : List Row) (j : ℕ) → head_bytes (get_or (assembled k As rs) j idle) ≡ head_bytes (get_or As j idle)
assembled-heads k [] rs j = refl
assembled-heads k (A ∷ As) rs zero = refl
assembled-heads k (A ∷ As) rs (suc j) = assembled-heads (suc k) As rs j

pub assembled-long : (k : ℕ) (As : List Automaton) (rs : List Row) → length (assembled k As rs) ≡ length As
assembled-long k [] rs = refl
assembled-long k (A ∷ As) rs = ap suc (assembled-long (suc k) As rs)

-- the scanner of the whole file, section by section
module _ (s : List ℕ) where
  abbrev whole : List EventKind → List Variable → List Automaton → List Row → System
  whole ks vs As rs = record { kinds = ks; variables = vs; automata = assembled 0 As rs }

  module _ (ks : List EventKind) (n : ℕ) (E : run events s 0 ≡ good ks n) where
    bad_variables : (f : Fault) → run variables s n ≡ bad f → run file s 0 ≡ bad f
    unfolding file
    bad_variables f is = run-then events _ s 0 n ks E ∙ run-fails variables _ s n f is

    module _ (vs : List Variable) (m : ℕ) (V : run variables s n ≡ good vs m) where
      bad_heads : (f : Fault) → run (heads (length ks)) s m ≡ bad f → run file s 0 ≡ bad f
      unfolding file
      bad_heads f is = run-then events _ s 0 n ks E ∙ run-then variables _ s n m vs V ∙ run-fails (heads (length ks)) _ s m f is

      module _ (As : List Automaton) (k : ℕ) (H : run (heads (length ks)) s m ≡ good As k) where
        bad_rows : (f : Fault) → run (transitions (length ks) (length vs) As) s k ≡ bad f → run file s 0 ≡ bad f
        unfolding file
        bad_rows f is =
            run-then events _ s 0 n ks E ∙ run-then variables _ s n m vs V ∙ run-then (heads (length ks)) _ s m k As H
            ∙ run-fails (transitions (length ks) (length vs) As) _ s k f is

        read_file : (rs : List Row) (end : ℕ) → run (transitions (length ks) (length vs) As) s k ≡ good rs end → run file s 0 ≡ good (whole ks vs As rs) end
        unfolding file
        read_file rs end is =
            run-then events _ s 0 n ks E ∙ run-then variables _ s n m vs V ∙ run-then (heads (length ks)) _ s m k As H
            ∙ run-then (transitions (length ks) (length vs) As) _ s k end rs is ∙ run-done (whole ks vs As rs) s end

-- the same, by what the code finds
module _ (s : List ℕ) where
  abbrev Kinds : ℕ → List EventKind → ℕ → Type 0
  Kinds n ks end = (length ks ≡ n) × (end ≡ n + 1)

  pub no_events : (f : Fault) → Says Kinds (Err f) (run events s 0) → answer s ≡ bad f
  unfolding file
  no_events f says = answer-bad s f (run-fails events _ s 0 f says.agree)

  module _ (n : ℕ) (E : Says Kinds (Ok n) (run events s 0)) where
    e_is : run events s 0 ≡ good E.agree.value (n + 1)
    e_is = E.agree.is ∙ ap (good E.agree.value) E.agree.holds.1

    pub no_variables : (f : Fault) → Says (VariablesAt (n + 1)) (Err f) (run variables s (n + 1)) → answer s ≡ bad f
    no_variables f says = answer-bad s f (bad_variables s _ (n + 1) e_is f says.agree)

    module _ (m : ℕ) (V : Says (VariablesAt (n + 1)) (Ok m) (run variables s (n + 1))) where
      v_is : run variables s (n + 1) ≡ good V.agree.value (n + 1 + 1 + 10 * m)
      v_is = V.agree.is ∙ ap (good V.agree.value) V.agree.holds.1

      pub no_heads : (f : Fault) → Says (HeadsFound s) (Err f) (run (heads n) s (n + 1 + 1 + 10 * m)) → answer s ≡ bad f
      no_heads f says =
          answer-bad s f (bad_heads s _ (n + 1) e_is _ (n + 1 + 1 + 10 * m) v_is f (subst (λ x. run (heads x) s (n + 1 + 1 + 10 * m) ≡ bad f) (sym E.agree.holds.0) says.agree))

      module _ (h : Heads) (few : h.count ≤ 12) (H : Says (HeadsFound s) (Ok h) (run (heads n) s (n + 1 + 1 + 10 * m))) where
        h_is : run (heads (length E.agree.value)) s (n + 1 + 1 + 10 * m) ≡ good H.agree.value h.end
        h_is = subst (λ x. run (heads x) s (n + 1 + 1 + 10 * m) ≡ good H.agree.value h.end) (sym E.agree.holds.0) (H.agree.is ∙ ap (good H.agree.value) (sym H.agree.holds.1))

        pub rows_ready : HeadsKnown s h
        rows_ready = heads-known s h H.agree.value H.agree.holds.0 few H.agree.holds.2

        -- the rows are read for the automata found
        abbrev RowsSaid : Result Rows Fault → Type 0
        RowsSaid r = (As : List Automaton) → length As ≡ h.count → HeadsAt s h.rows As → Says (RowsFound h.end) r (run (transitions n m As) s h.end)

        for_ours : (P : ℕ → ℕ → Type 0) → P n m → P (length E.agree.value) (length V.agree.value)
        for_ours P x = subst (λ a. P a (length V.agree.value)) (sym E.agree.holds.0) (subst (λ b. P n b) (sym V.agree.holds.0) x)

        pub ours : (r : Result Rows Fault) → RowsSaid r → Says (RowsFound h.end) r (run (transitions (length E.agree.value) (length V.agree.value) H.agree.value) s h.end)
        ours r said = for_ours (λ a b. Says (RowsFound h.end) r (run (transitions a b H.agree.value) s h.end)) (said H.agree.value H.agree.holds.0 H.agree.holds.2)

        pub no_rows : (f : Fault) → RowsSaid (Err f) → answer s ≡ bad f
        no_rows f said = answer-bad s f (bad_rows s _ (n + 1) e_is _ (n + 1 + 1 + 10 * m) v_is _ h.end h_is f (ours (Err f) said).agree)

        module _ (bytes : Bytes s) (x : Rows) (said : RowsSaid (Ok x)) where
          abbrev rs : List Row
          rs = (ours (Ok x) said).agree.value

          abbrev found : System
          found = whole s E.agree.value V.agree.value H.agree.value rs

          abbrev holds : RowsFound h.end x rs (ours (Ok x) said).agree.end
          holds = (ours (Ok x) said).agree.holds

          t_is : run (transitions (length E.agree.value) (length V.agree.value) H.agree.value) s h.end ≡ good rs x.end
          t_is = (ours (Ok x) said).agree.is ∙ ap (good rs) (sym holds.1)

          f_is : run file s 0 ≡ good found x.end
          f_is = read_file s _ (n + 1) e_is _ (n + 1 + 1 + 10 * m) v_is _ h.end h_is rs x.end t_is

          sound : Read rows_bytes (λ xs. (length xs ≤ 512) × Each (Follows (length E.agree.value) (length V.agree.value) H.agree.value) [] xs) s h.end rs x.end
          sound = (codec_transitions (length E.agree.value) (length V.agree.value) H.agree.value).sound s bytes h.end rs x.end t_is

          rows_found : rows found ≡ rs
          rows_found =
              rows-assembled H.agree.value rs (follows_known _ _ H.agree.value rs sound.holds.1) (follows_settled _ _ H.agree.value rs sound.holds.1)

          pub bytes_follow : x.end < length s → answer s ≡ bad (fault_at BytesFollow (origin Transitions x.count) x.end)
          bytes_follow more =
              answer-more s found x.end f_is more
              ∙ ap (λ k. bad (fault_at BytesFollow (origin Transitions k) x.end)) (ap length rows_found ∙ holds.0)

          pub accepted : length s ≤ x.end → answer s ≡ good found x.end
          accepted all = answer-whole s found x.end f_is all

          heads_stand : HeadsAt s h.rows found.automata
          heads_stand = record {
            begin = λ k under.
                rw (assembled-heads 0 H.agree.value rs k)
                (H.agree.holds.2.begin k (subst (λ i. k < i) (assembled-long 0 H.agree.value rs) under));
          }

          rows_stand : Stands s x.begin (flat_map row_bytes (rows found))
          rows_stand =
              let parts = stands_split s h.end (two_bytes (length rs)) (flat_map row_bytes rs) sound.stands in
              subst (λ i. Stands s i (flat_map row_bytes (rows found))) (sym holds.2)
              (subst (λ xs. Stands s (h.end + 2) (flat_map row_bytes xs)) (sym rows_found) parts.1)

          pub shown : length s ≤ x.end → Shows s (record { events = n; variables = m; automata = h.count; transitions = x.count; heads = h.rows; rows_at = x.begin }) found
          shown all =
              let a = accepted_encodes s bytes found x.end (accepted all) in
              record {
                formed = a.0;
                bytes = a.1;
                events = sym E.agree.holds.0;
                variables = sym V.agree.holds.0;
                automata = sym (assembled-long 0 H.agree.value rs ∙ H.agree.holds.0);
                transitions = sym (ap length rows_found ∙ holds.0);
                heads = heads_stand;
                rows = rows_stand;
              }
