-- The bytes of a system: four sections, each after its count.
use Rattle.std.specs.Prelude.{ℕ, Bool, true, false, List, [], ◌∷◌, ◌++◌, length}
use Rattle.std.specs.List.{flat_map}
use Rattle.scan.specs.Stands.{two_bytes}
use Rattle.expr.specs.Expr.{value_bytes}
use Rattle.expr.specs.Sized.{sized_bytes}
use Rattle.system.specs.System.{EventKind, Role, Update, Transition, Automaton, Variable, System, Row, rows}
use Rattle.system.specs.declared.kinds.EventKind.TheVariants.{Controllable, Uncontrollable}
use Rattle.system.specs.declared.kinds.Role.TheVariants.{Plant, Specification}

abbrev pub kind_byte : EventKind → ℕ
kind_byte Controllable = 0
kind_byte Uncontrollable = 1

abbrev pub role_byte : Role → ℕ
role_byte Plant = 0
role_byte Specification = 1

abbrev pub mark_byte : Bool → ℕ
mark_byte false = 0
mark_byte true = 1

abbrev pub kind_bytes : EventKind → List ℕ
kind_bytes k = kind_byte k ∷ []

abbrev pub variable_bytes : Variable → List ℕ
variable_bytes v = value_bytes v.low ++ (value_bytes v.high ++ (value_bytes v.start ++ (value_bytes v.marked_low ++ value_bytes v.marked_high)))

abbrev pub mark_bytes : Bool → List ℕ
mark_bytes m = mark_byte m ∷ []

abbrev pub event_bytes : ℕ → List ℕ
event_bytes e = e ∷ []

-- role, number of locations, start, marks, and the alphabet after its count
abbrev pub head_bytes : Automaton → List ℕ
head_bytes A = role_byte A.role ∷ (length A.marks ∷ (A.start ∷ (flat_map mark_bytes A.marks ++ (length A.alphabet ∷ flat_map event_bytes A.alphabet))))

abbrev pub update_bytes : Update → List ℕ
update_bytes u = u.variable ∷ sized_bytes u.value

-- automaton, from, event, to, the guard, and the updates after their count
abbrev pub transition_bytes : Transition → List ℕ
transition_bytes t = t.from ∷ (t.event ∷ (t.to ∷ (sized_bytes t.guard ++ (length t.updates ∷ flat_map update_bytes t.updates))))

abbrev pub row_bytes : Row → List ℕ
row_bytes r = r.owner ∷ transition_bytes r.transition

abbrev pub events_bytes : List EventKind → List ℕ
events_bytes ks = length ks ∷ flat_map kind_bytes ks

abbrev pub variables_bytes : List Variable → List ℕ
variables_bytes vs = length vs ∷ flat_map variable_bytes vs

abbrev pub automata_bytes : List Automaton → List ℕ
automata_bytes As = length As ∷ flat_map head_bytes As

abbrev pub rows_bytes : List Row → List ℕ
rows_bytes rs = two_bytes (length rs) ++ flat_map row_bytes rs

abbrev pub encode : System → List ℕ
encode S = events_bytes S.kinds ++ (variables_bytes S.variables ++ (automata_bytes S.automata ++ rows_bytes (rows S)))
