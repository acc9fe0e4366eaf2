-- The cases of a text: which entries stand in them.
use Rattle.std.specs.Prelude.{ℕ, suc, Bool, true, false, List, [], ◌∷◌, ◌++◌, ◌==◌}
use Rattle.std.proofs.Math.Option.{Option, none, some}
use Rattle.expr.specs.Expr.{Expr, term}
use Rattle.expr.specs.declared.code.Joint.TheVariants.{And}
use Rattle.system.specs.System.{Transition}
use Rattle.model_text.specs.declared.words.Operator.TheVariants.{Join}
use Rattle.model_text.specs.declared.words.Single.TheVariants.{Choice, Location}
use Rattle.model_text.specs.declared.words.Name.TheVariants as N
use Rattle.model_text.specs.Trees as T
use Rattle.translation.specs.Systems.{sought}
use Rattle.translation.specs.Written.{count, written, variable_name, is_at}

-- n where one of the guards is true, else m
abbrev pub either_case : ℕ → ℕ → List (T.Tree T.expr) → T.Tree T.entries
either_case n m [] = T.last (count m)
either_case n m (g ∷ gs) = T.entry g (count n) (either_case n m gs)

abbrev pub only_if : {A : Type 0} → Bool → A → List A
only_if true x = x ∷ []
only_if false x = []

-- an entry where there is a term
abbrev pub entry_if : T.Tree T.expr → (Expr term → T.Tree T.expr) → Option (Expr term) → T.Tree T.entries → T.Tree T.entries
entry_if g f none es = es
entry_if g f (some e) es = T.entry g (f e) es

-- an entry for each choice, from j on, whose transition updates variable i, else 0
abbrev pub wish_case : (Expr term → T.Tree T.expr) → ℕ → ℕ → ℕ → List Transition → T.Tree T.entries
wish_case f i k j [] = T.last (count 0)
wish_case f i k j (t ∷ ts) = entry_if (is_at (N.One Choice k) j) f (sought i t.updates) (wish_case f i k (suc j) ts)

-- the automaton is where the transition begins, and the guard holds
abbrev pub opening : ℕ → Transition → T.Tree T.expr
opening k t = T.binary (Join And) (is_at (N.One Location k) t.from) (written variable_name t.guard)

-- the transitions on the event
abbrev pub openings : ℕ → ℕ → List Transition → List (T.Tree T.expr)
openings e k [] = []
openings e k (t ∷ ts) = only_if (t.event == e) (opening k t) ++ openings e k ts

-- the marked locations, from j on
abbrev pub marked_at : ℕ → ℕ → List Bool → List (T.Tree T.expr)
marked_at k j [] = []
marked_at k j (m ∷ ms) = only_if m (is_at (N.One Location k) j) ++ marked_at k (suc j) ms
