-- The guards and the cases that a model is made of keep what a text asks.
use Rattle.std.proofs.Common.{ℕ, suc, ◌+◌, ◌*◌, ◌<◌, ◌≤◌, Bool, true, false, cond, eqb, List, [], ◌∷◌, length, inr, arith, lit≤}
use mathlib.Core.Option.{Option, none, some}
use Rattle.std.proofs.lemmas.List.{length-append}
use Rattle.expr.specs.Expr.{Expr, term, Formed}
use Rattle.expr.specs.declared.code.Joint.TheVariants.{And}
use Rattle.expr.specs.declared.code.Order.TheVariants.{Eq, Ne}
use Rattle.system.specs.System.{Update, Transition, Automaton}
use Rattle.system.specs.Formed.{All, HeadFormed, UpdateFormed, TransitionFormed}
use Rattle.system.proofs.Eaches.{all_append}
use Rattle.model_text.specs.declared.words.Kind.TheVariants.{Guard, Term}
use Rattle.model_text.specs.declared.words.Single.TheVariants.{Choice, Location}
use Rattle.model_text.specs.declared.words.Name.{Name}
use Rattle.model_text.specs.declared.words.Name.TheVariants as N
use Rattle.model_text.specs.Trees as T
use Rattle.model_text.specs.Scopes.{Place}
use Rattle.translation.specs.Systems.{sought}
use Rattle.translation.specs.Written.{written, variable_name, is_at, is_not}
use Rattle.translation.specs.Cases.{either_case, only_if, entry_if, wish_case, opening, openings, marked_at}
use Rattle.translation.specs.Translate.{both, none_of, outside, taken}
use Rattle.translation.proofs.Indexed.{only_if_lem}
use Rattle.translation.proofs.Fine.{Usable, Fine, fine_more, fine_count, fine_truth, fine_join, fine_choose, fine_last, fine_entry, fine_compared}
use Rattle.translation.proofs.Expressions.{fine_written}

-- a term that is sought is one of the updates'
abbrev Sought : ℕ → Option (Expr term) → Type 0
Sought m none = Unit {0}
Sought m (some e) = Formed m e

sought-one : (m : ℕ) (c : Bool) (e : Expr term) (o : Option (Expr term)) → Formed m e → Sought m o → Sought m (cond c (some e) o)
sought-one m true e o h g = h
sought-one m false e o h g = g

sought-formed : (m i : ℕ) (us : List Update) → All (UpdateFormed m) us → Sought m (sought i us)
sought-formed m i [] h = tt
sought-formed m i (u ∷ us) h = sought-one m (eqb i u.variable) u.value (sought i us) h.0.value (sought-formed m i us h.1)

-- at most as many entries as transitions, and as locations
pub length_openings : (e k : ℕ) (ts : List Transition) → length (openings e k ts) ≤ length ts
length_openings e k [] = lit≤ tt
length_openings e k (t ∷ ts) =
    let a = length_openings e k ts in
    let b = length-append (only_if (eqb t.event e) (opening k t)) (openings e k ts) in
    let c : length (only_if (eqb t.event e) (opening k t)) ≤ 1 = only_if_lem (λ xs. length xs ≤ 1) (eqb t.event e) (opening k t) (lit≤ tt) (λ _. lit≤ tt) in
    omega arith

pub length_marked : (k j : ℕ) (ms : List Bool) → length (marked_at k j ms) ≤ length ms
length_marked k j [] = lit≤ tt
length_marked k j (m ∷ ms) =
    let a = length_marked k (suc j) ms in
    let b = length-append (only_if m (is_at (N.One Location k) j)) (marked_at k (suc j) ms) in
    let c : length (only_if m (is_at (N.One Location k) j)) ≤ 1 = only_if_lem (λ xs. length xs ≤ 1) m (is_at (N.One Location k) j) (lit≤ tt) (λ _. lit≤ tt) in
    omega arith

module _ (K : Name → Type 0) (p : Place) where
  -- a guard of a case
  abbrev pub Entry : T.Tree T.expr → Type 0
  Entry g = Fine K p 17 8000 Guard g

  fine_either : (n m : ℕ) → n ≤ 1 → m ≤ 1 → (gs : List (T.Tree T.expr)) → All Entry gs → Fine K p 17 (8100 * length gs + 20) Term (either_case n m gs)
  fine_either n m l r [] h = fine_more (fine_last (fine_count (let g : m ≤ 32768 = omega arith in g))) (lit≤ tt) (lit≤ tt)
  fine_either n m l r (g ∷ gs) h =
      fine_more (fine_entry h.0 (fine_count (let g : n ≤ 32768 = omega arith in g)) (fine_either n m l r gs h.1)) (lit≤ tt) (omega arith)

  -- a case of at most 512 entries
  pub fine_case : (n m : ℕ) → n ≤ 1 → m ≤ 1 → (gs : List (T.Tree T.expr)) → All Entry gs → length gs ≤ 512 → Fine K p 24 16000000 Term (T.choose (either_case n m gs))
  fine_case n m l r gs h few = fine_more (fine_choose (fine_either n m l r gs h)) (lit≤ tt) (omega arith)

  pub fine_marked : (k : ℕ) → Usable K Term (N.One Location k) → (j : ℕ) (ms : List Bool) → j + length ms ≤ 64 → All Entry (marked_at k j ms)
  fine_marked k here j [] l = tt
  fine_marked k here j (m ∷ ms) l =
      all_append Entry (only_if m (is_at (N.One Location k) j)) (marked_at k (suc j) ms)
      (only_if_lem (All Entry) m (is_at (N.One Location k) j) tt (λ _. (fine_more (fine_compared Eq here (let g : j ≤ 32768 = omega arith in g)) (lit≤ tt) (lit≤ tt), tt)))
      (fine_marked k here (suc j) ms (omega arith))

  module _ (event : Usable K Term N.Event) where
    fine_none : (n s : ℕ) (g : T.Tree T.expr) (es : List ℕ) → 1 ≤ n → Fine K p n s Guard g → All (λ e. e < 64) es → Fine K p (n + length es) (s + 30 * length es) Guard (none_of g es)
    fine_none n s g [] l f h = fine_more f (omega arith) (omega arith)
    fine_none n s g (e ∷ es) l f h =
        let step : Fine K p (suc n) (s + 30) Guard (both g (is_not N.Event e)) = fine_more (fine_join And f (fine_compared Ne event (let i : e ≤ 32768 = omega (arith, h.0) in i))) (omega arith) (omega arith) in
        fine_more (fine_none (suc n) (s + 30) (both g (is_not N.Event e)) es (omega arith) step h.1) (omega arith) (omega arith)

    pub fine_outside : (es : List ℕ) → length es ≤ 24 → All (λ e. e < 64) es → Fine K p 24 1000 Guard (outside es)
    fine_outside [] l h = fine_more (fine_truth true) (lit≤ tt) (lit≤ tt)
    fine_outside (e ∷ es) l h =
        fine_more (fine_none 1 20 (is_not N.Event e) es (lit≤ tt) (fine_compared Ne event (let i : e ≤ 32768 = omega (arith, h.0) in i)) h.1) (omega arith) (omega arith)

  module _ (events m : ℕ) (few : events ≤ 64) (A : Automaton) (head : HeadFormed events A) (usable : (i : ℕ) → i < m → Usable K Term (variable_name i)) where
    fine_guard : (t : Transition) → TransitionFormed events m A t → Fine K p 16 7650 Guard (written variable_name t.guard)
    fine_guard t h = fine_written variable_name m usable t.guard h.guard (inr (λ i d. d))

    fine_at : {x : Name} {n : ℕ} → Usable K Term x → n < 64 → Fine K p 1 20 Guard (is_at x n)
    fine_at {x} {n} u l = fine_compared Eq u (let i : n ≤ 32768 = omega arith in i)

    fine_from : (k : ℕ) → Usable K Term (N.One Location k) → (t : Transition) → TransitionFormed events m A t → Fine K p 1 20 Guard (is_at (N.One Location k) t.from)
    fine_from k here t h = fine_at here (omega (arith, h.from, head.locations))

    pub fine_taken : (k : ℕ) → Usable K Term (N.One Location k) → Usable K Term N.Event → (t : Transition) → TransitionFormed events m A t → Fine K p 24 8000 Guard (taken k t)
    fine_taken k here event t h =
        fine_more (fine_join And (fine_join And (fine_from k here t h) (fine_at event (omega (arith, h.event)))) (fine_guard t h)) (lit≤ tt) (lit≤ tt)

    pub fine_openings : (k : ℕ) → Usable K Term (N.One Location k) → (e : ℕ) (ts : List Transition) → All (TransitionFormed events m A) ts → All Entry (openings e k ts)
    fine_openings k here e [] h = tt
    fine_openings k here e (t ∷ ts) h =
        all_append Entry (only_if (eqb t.event e) (opening k t)) (openings e k ts)
        (only_if_lem (All Entry) (eqb t.event e) (opening k t) tt (λ _. (fine_more (fine_join And (fine_from k here t h.0) (fine_guard t h.0)) (lit≤ tt) (lit≤ tt), tt)))
        (fine_openings k here e ts h.1)

    -- the wishes of an automaton, each as f writes it
    module _ (f : Expr term → T.Tree T.expr) (writes : (e : Expr term) → Formed m e → Fine K p 16 7650 Term (f e)) (i k : ℕ) (choice : Usable K Term (N.One Choice k)) where
      fine_entry_if : (j s : ℕ) (o : Option (Expr term)) (es : T.Tree T.entries) → j ≤ 512 → Sought m o → Fine K p 17 s Term es → Fine K p 17 (8100 + s) Term (entry_if (is_at (N.One Choice k) j) f o es)
      fine_entry_if j s none es l g h = fine_more h (lit≤ tt) (omega arith)
      fine_entry_if j s (some e) es l g h =
          fine_more (fine_entry (fine_compared Eq choice (let q : j ≤ 32768 = omega arith in q)) (writes e g) h) (lit≤ tt) (omega arith)

      fine_entries : (j : ℕ) (ts : List Transition) → j + length ts ≤ 513 → All (TransitionFormed events m A) ts → Fine K p 17 (8100 * length ts + 20) Term (wish_case f i k j ts)
      fine_entries j [] l h = fine_more (fine_last (fine_count (let g : 0 ≤ 32768 = lit≤ tt in g))) (lit≤ tt) (lit≤ tt)
      fine_entries j (t ∷ ts) l h =
          fine_more
          (fine_entry_if j (8100 * length ts + 20) (sought i t.updates) (wish_case f i k (suc j) ts) (omega arith) (sought-formed m i t.updates h.0.updates) (fine_entries (suc j) ts (omega arith) h.1))
          (lit≤ tt)
          (omega arith)

      pub fine_wish : (ts : List Transition) → length ts ≤ 512 → All (TransitionFormed events m A) ts → Fine K p 24 16000000 Term (T.choose (wish_case f i k 1 ts))
      fine_wish ts l h = fine_more (fine_choose (fine_entries 1 ts (omega arith) h)) (lit≤ tt) (omega arith)
