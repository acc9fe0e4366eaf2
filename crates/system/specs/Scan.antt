-- Reading a system file forward: each byte's rule is tested where it is read, and the first that is broken refuses the file.
use Rattle.std.specs.Prelude.{ℕ, suc, max, Bool, true, false, cond, ◌&&◌, ◌||◌, List, [], ◌∷◌, map, length, ℤ, pos, negsuc, ◌==◌, int_le, nat_le, nat_lt, slice_index_or}
use Rattle.std.specs.Int.{w16}
use Rattle.std.proofs.Common.{to_z}
use Rattle.scan.specs.declared.refusal.Origin.{Origin}
use Rattle.scan.specs.declared.refusal.Section.{Section}
use Rattle.scan.specs.declared.refusal.Section.TheVariants.{Events, Variables, Automata, Transitions}
use Rattle.scan.specs.declared.refusal.FileFault.TheVariants.{BytesFollow}
use Rattle.scan.specs.declared.refusal.FileRule.TheVariants.{CountLimits, VariableValues, KnownNumber, RisingOrder, InAlphabet}
use Rattle.scan.specs.Faults.{fault_at}
use Rattle.scan.specs.Scan.{Scan, done, refuse, ask, and_then, Out, good, bad, run, counted, numbered, zero_or_one, pair, collect}
use Rattle.expr.specs.Expr.{guard, term}
use Rattle.expr.specs.Scan.{sized}
use Rattle.system.specs.System.{EventKind, Role, Update, Transition, Automaton, Variable, System, Row, idle, rows}
use Rattle.system.specs.declared.kinds.EventKind.TheVariants.{Controllable, Uncontrollable}
use Rattle.system.specs.declared.kinds.Role.TheVariants.{Plant, Specification}

-- a section's row, or its count at row 0
abbrev pub origin : Section → ℕ → Origin
origin section row = record { section = section; row = row }

-- the row after those that were read
abbrev pub row_after : {A : Type 0} → Section → List A → Origin
row_after section before = origin section (suc (length before))

-- the least number that is above all of the list
abbrev pub bound : List ℕ → ℕ
bound [] = 0
bound (x ∷ xs) = max (suc x) (bound xs)

-- 1. Events
abbrev pub kind_of : ℕ → EventKind
kind_of b = cond (b == 0) Controllable Uncontrollable

unfoldable pub event_row : Origin → Scan EventKind
event_row o = and_then (zero_or_one o) (λ b. done (kind_of b))

unfoldable pub events : Scan (List EventKind)
events = and_then (counted (origin Events 0) 1 64) (λ n. collect n (λ before. event_row (row_after Events before)) [])

-- 2. Variables
unfoldable pub value : Origin → Scan ℤ
value o = and_then (pair o) (λ n. done (to_z w16 n))

abbrev pub in_order : Variable → Bool
in_order v =
    (int_le (negsuc 999) v.low && (int_le v.low v.high && int_le v.high (pos 1000)))
    && ((int_le v.low v.start && int_le v.start v.high)
    && (int_le v.low v.marked_low && (int_le v.marked_low v.marked_high && int_le v.marked_high v.high)))

-- the five values have one rule, which is tested at the last byte
unfoldable pub ruled : Origin → Variable → Scan Variable
ruled o v = cond (in_order v) (done v) (refuse o VariableValues)

unfoldable pub variable_row : Origin → Scan Variable
variable_row o =
    and_then (value o) (λ low. and_then (value o) (λ high. and_then (value o) (λ start. and_then (value o) (λ marked_low. and_then (value o) (λ marked_high.
    ruled o (record { low = low; high = high; start = start; marked_low = marked_low; marked_high = marked_high }))))))

unfoldable pub variables : Scan (List Variable)
variables = and_then (counted (origin Variables 0) 0 12) (λ n. collect n (λ before. variable_row (row_after Variables before)) [])

-- 3. Automata
abbrev pub role_of : ℕ → Role
role_of b = cond (b == 0) Plant Specification

abbrev pub mark_of : ℕ → Bool
mark_of b = cond (b == 0) false true

unfoldable pub mark : Origin → Scan Bool
mark o = and_then (zero_or_one o) (λ b. done (mark_of b))

-- the number of one of n things, which does not fall below a floor
unfoldable pub rising : Origin → ℕ → ℕ → Scan ℕ
rising o n floor = ask o (λ x. cond (nat_lt x n) (cond (nat_le floor x) (done x) (refuse o RisingOrder)) (refuse o KnownNumber))

unfoldable pub head_row : ℕ → Origin → Scan Automaton
head_row n o =
    and_then (zero_or_one o) (λ role. and_then (counted o 1 64) (λ locations. and_then (numbered o locations) (λ start.
    and_then (collect locations (λ before. mark o) []) (λ marks. and_then (counted o 1 24) (λ size.
    and_then (collect size (λ before. rising o n (bound before)) []) (λ alphabet.
    done (record { role = role_of role; start = start; marks = marks; alphabet = alphabet; transitions = [] })))))))

unfoldable pub heads : ℕ → Scan (List Automaton)
heads n = and_then (counted (origin Automata 0) 1 12) (λ m. collect m (λ before. head_row n (row_after Automata before)) [])

-- 4. Transitions
abbrev pub is_in : ℕ → List ℕ → Bool
is_in e [] = false
is_in e (x ∷ xs) = e == x || is_in e xs

-- the number of an automaton, which does not fall from row to row
unfoldable pub owner : Origin → ℕ → ℕ → Scan ℕ
owner o n floor = ask o (λ k. cond (nat_lt k n) (cond (nat_le floor (suc k)) (done k) (refuse o RisingOrder)) (refuse o KnownNumber))

-- an event of an alphabet
unfoldable pub event_in : Origin → ℕ → List ℕ → Scan ℕ
event_in o n alphabet = ask o (λ e. cond (nat_lt e n) (cond (is_in e alphabet) (done e) (refuse o InAlphabet)) (refuse o KnownNumber))

unfoldable pub update : Origin → ℕ → ℕ → Scan Update
update o n floor = and_then (rising o n floor) (λ v. and_then (sized n o term) (λ e. done (record { variable = v; value = e })))

unfoldable pub updates : Origin → ℕ → Scan (List Update)
updates o n = and_then (counted o 0 12) (λ m. collect m (λ before. update o n (bound (map (λ u. u.variable) before))) [])

-- a transition of the automaton A, where there are n events and m variables
unfoldable pub transition : Origin → ℕ → ℕ → Automaton → Scan Transition
transition o n m A =
    and_then (numbered o (length A.marks)) (λ from. and_then (event_in o n A.alphabet) (λ event. and_then (numbered o (length A.marks)) (λ to.
    and_then (sized m o guard) (λ g. and_then (updates o m) (λ us.
    done (record { from = from; event = event; to = to; guard = g; updates = us }))))))

unfoldable pub transition_row : Origin → ℕ → ℕ → List Automaton → ℕ → Scan Row
transition_row o n m As floor =
    and_then (owner o (length As) floor) (λ k. and_then (transition o n m (slice_index_or As k idle)) (λ t. done (record { owner = k; transition = t })))

-- a count of two bytes
unfoldable pub few_rows : Origin → ℕ → Scan ℕ
few_rows o n = cond (nat_le n 512) (done n) (refuse o CountLimits)

unfoldable pub transitions : ℕ → ℕ → List Automaton → Scan (List Row)
transitions n m As =
    and_then (pair (origin Transitions 0)) (λ count. and_then (few_rows (origin Transitions 0) count) (λ k.
    collect k (λ before. transition_row (row_after Transitions before) n m As (bound (map (λ r. r.owner) before))) []))

-- the transitions that a list of rows has for the automaton k, and the automata with theirs
abbrev pub owned : ℕ → List Row → List Transition
owned k [] = []
owned k (r ∷ rs) = cond (r.owner == k) (r.transition ∷ owned k rs) (owned k rs)

abbrev pub assembled : ℕ → List Automaton → List Row → List Automaton
assembled k [] rs = []
assembled k (A ∷ As) rs = record { role = A.role; start = A.start; marks = A.marks; alphabet = A.alphabet; transitions = owned k rs } ∷ assembled (suc k) As rs

-- the whole file
unfoldable pub file : Scan System
file =
    and_then events (λ ks. and_then variables (λ vs. and_then (heads (length ks)) (λ As. and_then (transitions (length ks) (length vs) As) (λ rs.
    done (record { kinds = ks; variables = vs; automata = assembled 0 As rs })))))

-- nothing follows the last row
abbrev pub nothing_follows : List ℕ → Out System → Out System
nothing_follows s (good S end) = cond (nat_lt end (length s)) (bad (fault_at BytesFollow (origin Transitions (length (rows S))) end)) (good S end)
nothing_follows s (bad f) = bad f

-- what is said of a file: the system that it stands for, or a refusal
unfoldable pub answer : List ℕ → Out System
answer s = nothing_follows s (run file s 0)
