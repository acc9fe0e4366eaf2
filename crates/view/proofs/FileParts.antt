-- The parts of a system in its file, by their numbers.
use Rattle.std.proofs.Common.{◌≡◌, ℕ, ◌+◌, ◌*◌, ◌<◌, ◌≤◌, List, [], ◌++◌, length, get_or, pos, sym, refl, ap, ◌∙◌, subst, arith}
use Rattle.std.proofs.lemmas.List.{append-nil, get_or_default}
use Rattle.std.specs.List.{flat_map}
use Rattle.scan.specs.Stands.{Stands}
use Rattle.scan.proofs.Standing.{stands_front, stands_head, stands_split, stands_within}
use Rattle.system.specs.System.{Automaton, Variable, System, idle, rows}
use Rattle.system.specs.declared.kinds.EventKind.{EventKind}
use Rattle.system.specs.declared.kinds.EventKind.TheVariants.{Controllable, Uncontrollable}
use Rattle.system.specs.declared.layout.Layout.{Layout}
use Rattle.system.specs.Formed.{VariableFormed}
use Rattle.system.specs.Encode.{kind_byte, kind_bytes, variable_bytes, head_bytes, events_bytes, variables_bytes, automata_bytes, rows_bytes, encode}
use Rattle.system.specs.Heads.{HeadFits}
use Rattle.system.specs.Scan.{kind_of}
use Rattle.system.specs.Shows.{Shows}
use Rattle.system.proofs.HeadParts.{head_fits}
use Rattle.view.specs.Walk.{RowsAt}
use Rattle.view.proofs.Pieces.{joined_long, piece_stands}
use Rattle.view.proofs.FineRows.{all_at, rows-fine}

byte_kind : (k : EventKind) → kind_of (kind_byte k) ≡ k
byte_kind Controllable = refl
byte_kind Uncontrollable = refl

module _ (s : List ℕ) (l : Layout) (S : System) (h : Shows s l S) where
  abbrev later : List ℕ
  later = automata_bytes S.automata ++ rows_bytes (rows S)

  parts : Stands s 0 (events_bytes S.kinds) × Stands s (0 + length (events_bytes S.kinds)) (variables_bytes S.variables ++ later)
  parts = stands_split s 0 (events_bytes S.kinds) (variables_bytes S.variables ++ later) (stands_front s 0 (encode S) [] (sym (append-nil (encode S) ∙ h.bytes)))

  -- events
  pub kind_stands : (e : ℕ) (d : EventKind) → e < l.events → (e + 1 < length s) × (get_or s (e + 1) 0 ≡ kind_byte (get_or S.kinds e d))
  kind_stands e d under =
      let all = (stands_head s 0 _ _ parts.0).2 in
      let one = piece_stands kind_bytes 1 (λ k. refl) s (0 + 1) S.kinds e d (omega (arith, h.events)) all in
      let at : 0 + 1 + 1 * e ≡ e + 1 = omega arith in
      let p = stands_head s (e + 1) _ _ (subst (λ i. Stands s i (kind_bytes (get_or S.kinds e d))) at one) in
      (p.0, p.1)

  pub kind_shown : (e : ℕ) (d : EventKind) → e < l.events → kind_of (get_or s (e + 1) 0) ≡ get_or S.kinds e d
  kind_shown e d under = ap kind_of (kind_stands e d under).1 ∙ byte_kind (get_or S.kinds e d)

  -- variables
  pub variable_stands : (i : ℕ) (d : Variable) → i < l.variables → Stands s (l.events + 2 + 10 * i) (variable_bytes (get_or S.variables i d))
  variable_stands i d under =
      let section = (stands_split s (0 + length (events_bytes S.kinds)) (variables_bytes S.variables) later parts.1).0 in
      let all = (stands_head s (0 + length (events_bytes S.kinds)) _ _ section).2 in
      let at : 0 + length (events_bytes S.kinds) + 1 ≡ l.events + 2 = omega (arith, h.events, joined_long kind_bytes 1 (λ k. refl) S.kinds) in
      piece_stands variable_bytes 10 (λ v. refl) s (l.events + 2) S.variables i d (omega (arith, h.variables))
      (subst (λ k. Stands s k (flat_map variable_bytes S.variables)) at all)

  pub variable_formed : (i : ℕ) (d : Variable) → i < l.variables → VariableFormed (get_or S.variables i d)
  variable_formed i d under = all_at VariableFormed S.variables h.formed.variables i d (omega (arith, h.variables))

  pub variable_within : (i : ℕ) → i < l.variables → l.events + 2 + 10 * i + 10 ≤ length s
  variable_within i under =
      let d : Variable = record { low = pos 0; high = pos 0; start = pos 0; marked_low = pos 0; marked_high = pos 0 } in
      let here = variable_stands i d under in
      let some = (stands_head s (l.events + 2 + 10 * i) _ _ here).0 in
      stands_within s (l.events + 2 + 10 * i) _ (omega arith) here

  -- automata
  pub head_stands : (k : ℕ) (d : Automaton) → k < l.automata → Stands s (get_or l.heads k 0) (head_bytes (get_or S.automata k d))
  head_stands k d under =
      let within : k < length S.automata = omega (arith, h.automata) in
      subst (λ A. Stands s (get_or l.heads k 0) (head_bytes A)) (get_or_default S.automata k idle d within) (h.heads.begin k within)

  pub few_heads : l.automata ≤ 12
  few_heads = omega (arith, h.automata, h.formed.few_automata)

  pub row_fits : (k : ℕ) → k < l.automata → HeadFits s (get_or l.heads k 0)
  row_fits k under = head_fits s _ (get_or S.automata k idle) (head_stands k idle under)

  -- transitions
  pub rows_stand : RowsAt s l.rows_at l.transitions (rows S)
  rows_stand = record { stands = h.rows; count = sym h.transitions; fine = rows-fine S h.formed }
