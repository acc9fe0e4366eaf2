-- Whether an automaton has a role, and an event in its alphabet.
use Rattle.std.specs.Prelude.{ℕ, Bool, not, ◌&&◌}
use Rattle.system.specs.System.{Automaton}
use Rattle.system.specs.declared.kinds.Role.{Role}
use Rattle.system.specs.declared.kinds.Role.TheVariants.{Plant, Specification}
use Rattle.translation.specs.Systems.{is_plant, is_in}

abbrev pub has_role : Role → Role → Bool
has_role Plant r = is_plant r
has_role Specification r = not (is_plant r)

abbrev pub is_with : Role → ℕ → Automaton → Bool
is_with role e A = has_role role A.role && is_in e A.alphabet
