-- The parts of a well-formed system, and the names that may be used at a place.
use Rattle.std.proofs.Common.{◌≡◌, ℕ, ◌<◌, ◌≤◌, List, length, ℤ, pos, negsuc, ◌≤ℤ◌, refl, inl, inr, arith, w16, SFits}
use Rattle.std.proofs.lemmas.List.{length-map}
use Rattle.std.proofs.lemmas.Int.{ints}
use Rattle.system.specs.System.{System, idle}
use Rattle.system.specs.Formed.{VariableFormed, AutomatonFormed, WellFormed}
use Rattle.model_text.specs.declared.words.Kind.{Kind}
use Rattle.model_text.specs.declared.words.Kind.TheVariants.{Term}
use Rattle.model_text.specs.declared.words.Single.TheVariants.{Choice, Location}
use Rattle.model_text.specs.declared.words.Name.{Name}
use Rattle.model_text.specs.declared.words.Name.TheVariants as N
use Rattle.model_text.specs.Words.{GoodName}
use Rattle.model_text.specs.Kinds.{kind_of}
use Rattle.model_text.specs.Scopes.{Place, Allows, Among, Known}
use Rattle.translation.specs.Systems.{automaton, variable, zero_variable, ranges}
use Rattle.translation.specs.Written.{variable_name}
use Rattle.translation.proofs.Indexed.{all_at}
use Rattle.translation.proofs.Fine.{Usable}

-- known there, and allowed at the place
abbrev pub Here : System → List Name → Place → Name → Type 0
Here S before p x = Known (ranges S) before x × Allows p x

-- a name that is defined above
pub above : (S : System) (before : List Name) (p : Place) {k : Kind} (x : Name) → Among before x → Allows p x → kind_of x ≡ k → GoodName x → Usable (Here S before p) k x
above S before p x h a k g = record { known = (inr h, a); kind = k; numbers = g }

pub small_value : (v : ℤ) → negsuc 999 ≤ℤ v → v ≤ℤ pos 1000 → SFits w16 v
small_value (pos n) l h = let g : n ≤ 1000 = omega (arith, ints) in record { sfits = omega arith }
small_value (negsuc n) l h = let g : n ≤ 999 = omega (arith, ints) in record { sfits = omega arith }

-- the parts of a well-formed system
module _ (S : System) (formed : WellFormed S) where
  abbrev n_a : ℕ
  n_a = length S.automata

  abbrev n_v : ℕ
  n_v = length S.variables

  abbrev n_e : ℕ
  n_e = length S.kinds

  pub automaton_formed : (k : ℕ) → k < n_a → AutomatonFormed n_e n_v (automaton S k)
  automaton_formed k l = all_at (AutomatonFormed n_e n_v) S.automata formed.automata k idle l

  pub variable_formed : (i : ℕ) → i < n_v → VariableFormed (variable S i)
  variable_formed i l = all_at VariableFormed S.variables formed.variables i zero_variable l

  pub good_automaton : (k : ℕ) → k < n_a → k ≤ 999
  good_automaton k l = omega (arith, formed.few_automata)

  pub good_variable : (i : ℕ) → i < n_v → i ≤ 999
  good_variable i l = omega (arith, formed.few_variables)

  pub good_event : (e : ℕ) → e < n_e → e ≤ 999
  good_event e l = omega (arith, formed.events)

  -- the declared names
  module _ (before : List Name) (p : Place) where
    pub event_usable : Allows p N.Event → Usable (Here S before p) Term N.Event
    event_usable a = record { known = (inl tt, a); kind = refl; numbers = tt }

    pub choice_usable : (k : ℕ) → k < n_a → Allows p (N.One Choice k) → Usable (Here S before p) Term (N.One Choice k)
    choice_usable k l a = record { known = (inl (rw length-map l), a); kind = refl; numbers = good_automaton k l }

    pub location_usable : (k : ℕ) → k < n_a → Allows p (N.One Location k) → Usable (Here S before p) Term (N.One Location k)
    location_usable k l a = record { known = (inl (rw length-map l), a); kind = refl; numbers = good_automaton k l }

    pub variable_usable : (i : ℕ) → i < n_v → Allows p (variable_name i) → Usable (Here S before p) Term (variable_name i)
    variable_usable i l a = record { known = (inl (rw length-map l), a); kind = refl; numbers = good_variable i l }
