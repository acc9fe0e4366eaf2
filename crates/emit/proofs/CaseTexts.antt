-- The texts of cases, entry by entry.
use Rattle.std.proofs.Common.{◌≡◌, ℕ, zero, suc, ◌+◌, Bool, true, false, cond, eqb, List, [], ◌∷◌, ◌++◌, codes, decimal, sym, refl, ap, ◌∙◌, append_assoc, append-nil, add-one}
use mathlib.Core.Option.{Option, none, some}
use Rattle.sinks.specs.Text.{each}
use Rattle.expr.specs.Expr.{Expr, term}
use Rattle.system.specs.System.{Transition}
use Rattle.model_text.specs.declared.words.Single.TheVariants.{Choice, Location}
use Rattle.model_text.specs.declared.words.Name.TheVariants as N
use Rattle.model_text.specs.declared.words.Name.{Name}
use Rattle.model_text.specs.Words.{name_text}
use Rattle.model_text.specs.Lists.{up_to}
use Rattle.model_text.specs.Trees as T
use Rattle.translation.specs.Systems.{sought}
use Rattle.translation.specs.Written.{is_at}
use Rattle.translation.specs.Cases.{either_case, only_if, entry_if, wish_case, opening, openings, marked_at}
use Rattle.emit.specs.Texts.{definition_text, case_text, entry_text, entries_text, last_text, wish_entry, open_entry}

-- an entry, guard g and value v, in front of others and the last one
entry_first : (g v es last : List ℕ) → g ++ (codes " : " ++ (v ++ (codes "; " ++ (es ++ last)))) ≡ ((g ++ (codes " : " ++ (v ++ codes "; "))) ++ es) ++ last
entry_first g v es last = simp append_assoc

module _ (n : ℕ) where
  pub case_entries : (m : ℕ) (gs : List (T.Tree T.expr)) → T.print (either_case n m gs) ≡ entries_text n gs ++ last_text m
  case_entries m [] = refl
  case_entries m (g ∷ gs) =
      ap (λ z. T.print g ++ (codes " : " ++ (decimal n ++ (codes "; " ++ z)))) (case_entries m gs)
      ∙ entry_first (T.print g) (decimal n) (entries_text n gs) (last_text m)

  -- the line of a name that is defined as a case with these entries
  pub case_definition : (x : Name) (m : ℕ) (gs : List (T.Tree T.expr)) (es : List ℕ) → entries_text n gs ≡ es → definition_text x (T.choose (either_case n m gs)) ≡ case_text x es m
  case_definition x m gs es are =
      ap (λ z. name_text x ++ (codes " := (case " ++ (z ++ codes ";\n"))) (case_entries m gs ∙ ap (λ z. z ++ last_text m) are)
      ∙ ap (λ z. name_text x ++ (codes " := (case " ++ z)) (append_assoc es (last_text m) (codes ";\n"))

  pub entries_append : (gs hs : List (T.Tree T.expr)) → entries_text n (gs ++ hs) ≡ entries_text n gs ++ entries_text n hs
  entries_append [] hs = refl
  entries_append (g ∷ gs) hs = ap (λ z. entry_text n g ++ z) (entries_append gs hs) ∙ sym (append_assoc (entry_text n g) (entries_text n gs) (entries_text n hs))

  pub entries_up_to : (m : ℕ) (F : ℕ → List (T.Tree T.expr)) → entries_text n (up_to m F) ≡ up_to m (λ k. entries_text n (F k))
  entries_up_to zero F = refl
  entries_up_to (suc m) F = entries_append (up_to m F) (F m) ∙ ap (λ z. z ++ entries_text n (F m)) (entries_up_to m F)

  pub entries_only_if : (b : Bool) (g : T.Tree T.expr) → entries_text n (only_if b g) ≡ cond b (entry_text n g) []
  entries_only_if true g = append-nil (entry_text n g)
  entries_only_if false g = refl

  -- an entry that may be there, in front of others
  entries_maybe : (b : Bool) (g : T.Tree T.expr) (gs : List (T.Tree T.expr)) → entries_text n (only_if b g ++ gs) ≡ cond b (entry_text n g) [] ++ entries_text n gs
  entries_maybe b g gs = entries_append (only_if b g) gs ∙ ap (λ z. z ++ entries_text n gs) (entries_only_if b g)

module _ (f : Expr term → T.Tree T.expr) (i k : ℕ) where
  wish_first : (j : ℕ) (o : Option (Expr term)) (es : T.Tree T.entries) (rest last : List ℕ)
      → T.print es ≡ rest ++ last → T.print (entry_if (is_at (N.One Choice k) j) f o es) ≡ (wish_entry f i k j o ++ rest) ++ last
  wish_first j none es rest last e = e
  wish_first j (some x) es rest last e =
      ap (λ z. T.print (is_at (N.One Choice k) j) ++ (codes " : " ++ (T.print (f x) ++ (codes "; " ++ z)))) e
      ∙ entry_first (T.print (is_at (N.One Choice k) j)) (T.print (f x)) rest last

  abbrev wish : ℕ → Transition → List ℕ
  wish j t = wish_entry f i k (j + 1) (sought i t.updates)

  wishes_from : (j : ℕ) (ts : List Transition) → T.print (wish_case f i k (j + 1) ts) ≡ each wish j ts ++ last_text 0
  wishes_from j [] = refl
  wishes_from j (t ∷ ts) =
      wish_first (j + 1) (sought i t.updates) (wish_case f i k (suc (j + 1)) ts) (each wish (j + 1) ts) (last_text 0)
      (ap (λ p. T.print (wish_case f i k p ts)) (sym (add-one (j + 1))) ∙ wishes_from (j + 1) ts)

  pub wish_definition : (x : Name) (ts : List Transition) → definition_text x (T.choose (wish_case f i k 1 ts)) ≡ case_text x (each (λ j t. wish_entry f i k (j + 1) (sought i t.updates)) 0 ts) 0
  wish_definition x ts =
      ap (λ z. name_text x ++ (codes " := (case " ++ (z ++ codes ";\n"))) (wishes_from 0 ts)
      ∙ ap (λ z. name_text x ++ (codes " := (case " ++ z)) (append_assoc (each wish 0 ts) (last_text 0) (codes ";\n"))

module _ (e k : ℕ) where
  openings_from : (j : ℕ) (ts : List Transition) → entries_text 1 (openings e k ts) ≡ each (λ _ t. open_entry e k t) j ts
  openings_from j [] = refl
  openings_from j (t ∷ ts) = entries_maybe 1 (eqb t.event e) (opening k t) (openings e k ts) ∙ ap (λ z. open_entry e k t ++ z) (openings_from (j + 1) ts)

  pub entries_openings : (ts : List Transition) → entries_text 1 (openings e k ts) ≡ each (λ _ t. open_entry e k t) 0 ts
  entries_openings ts = openings_from 0 ts

module _ (k : ℕ) where
  abbrev mark : ℕ → Bool → List ℕ
  mark j m = cond m (entry_text 1 (is_at (N.One Location k) j)) []

  marks_from : (j : ℕ) (ms : List Bool) → entries_text 1 (marked_at k j ms) ≡ each mark j ms
  marks_from j [] = refl
  marks_from j (m ∷ ms) =
      entries_maybe 1 m (is_at (N.One Location k) j) (marked_at k (suc j) ms)
      ∙ ap (λ z. mark j m ++ z) (ap (λ p. entries_text 1 (marked_at k p ms)) (sym (add-one j)) ∙ marks_from (j + 1) ms)

  pub entries_marks : (ms : List Bool) → entries_text 1 (marked_at k 0 ms) ≡ each (λ j m. cond m (entry_text 1 (is_at (N.One Location k) j)) []) 0 ms
  entries_marks ms = marks_from 0 ms
