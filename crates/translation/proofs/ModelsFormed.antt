-- The model of every well-formed system under every lawful rule is well formed.
use Rattle.std.proofs.Common.{◌≡◌, ℕ, pred, ◌<◌, ◌≤◌, List, [], ◌∷◌, map, length, sym, refl, ap, ◌∙◌, arith}
use Rattle.std.proofs.lemmas.List.{length-map}
use Rattle.scan.specs.Stands.{Each}
use Rattle.clash.specs.Rules.{ClashRule, Lawful}
use Rattle.system.specs.System.{Automaton, System, idle}
use Rattle.system.specs.Formed.{All, VariableFormed, WellFormed}
use Rattle.system.proofs.Eaches.{all_like, all_map, all_each, each_like, each_both, each_map}
use Rattle.model_text.specs.declared.words.Kind.{Kind}
use Rattle.model_text.specs.declared.words.Kind.TheVariants.{Guard}
use Rattle.model_text.specs.declared.words.Name.{Name}
use Rattle.model_text.specs.Trees as T
use Rattle.model_text.specs.Ranges.{SpanFormed, RangesFormed}
use Rattle.model_text.specs.Scopes.{Place, of-state, of-step, Among}
use Rattle.model_text.specs.Formed.{Right, names_of, DefinitionFormed, GuardsFormed, ModelFormed}
use Rattle.translation.specs.Systems.{automaton, span, ranges}
use Rattle.translation.specs.Translate.{names, defined, model_of}
use Rattle.translation.specs.Readable.{ModelsAreFormed}
use Rattle.translation.proofs.Indexed.{all_from}
use Rattle.translation.proofs.Fine.{Fine}
use Rattle.translation.proofs.Fresh.{fresh}
use Rattle.translation.proofs.Counts.{few_transitions, few_names}
use Rattle.translation.proofs.Parts.{Here, automaton_formed}
use Rattle.translation.proofs.Definitions.{Stood}
use Rattle.translation.proofs.Ordered.{ordered}
use Rattle.translation.proofs.Constraints.{Said, said_starts, said_steps, said_always, said_reachable}

right : (S : System) (before : List Name) {p : Place} {k : Kind} {s : ℕ} {e : T.Tree T.expr} → Fine (Here S before p) p 24 s k e → Right (ranges S) before p k e
right S before h = record {
  shaped = record { fits = h.fits; good = h.good; few_open = h.few_open; nexts = h.nexts };
  names = record { named = h.named };
}

-- the names of the definitions of names are those names
names-defined : (S : System) (R : ClashRule) (xs : List Name) → names_of (map (defined S R) xs) ≡ xs
names-defined S R [] = refl
names-defined S R (x ∷ xs) = ap (λ ys. x ∷ ys) (names-defined S R xs)

less_one : (n : ℕ) → n ≤ 64 → pred n ≤ 63
less_one n h = omega arith

module _ (S : System) (R : ClashRule) (formed : WellFormed S) where
  automata_within : (n : ℕ) (f : Automaton → ℕ) → ((k : ℕ) → k < length S.automata → f (automaton S k) ≤ n) → Each (λ _ m. m ≤ n) [] (map f S.automata)
  automata_within n f h = all_each (λ m. m ≤ n) [] (map f S.automata) (all_map f (λ m. m ≤ n) S.automata (all_from (λ A. f A ≤ n) S.automata idle h))

  pub ranges_formed : RangesFormed (ranges S)
  ranges_formed = record {
    events = less_one (length S.kinds) formed.events;
    choices = automata_within 512 (λ A. length A.transitions) (few_transitions S R formed);
    locations = automata_within 63 (λ A. pred (length A.marks)) (λ k l. less_one (length (automaton S k).marks) (automaton_formed S formed k l).head.locations);
    as_many = length-map S.automata (λ A. length A.transitions) ∙ sym (length-map S.automata (λ A. pred (length A.marks)));
    some_automaton = rw length-map formed.some_automaton;
    few_automata = rw length-map formed.few_automata;
    values = all_each SpanFormed [] (map span S.variables) (all_map span SpanFormed S.variables (all_like VariableFormed (λ v. SpanFormed (span v)) (λ v h. record { bottom = h.bottom; some = h.some; top = h.top }) S.variables formed.variables));
    few_variables = rw length-map formed.few_variables;
  }

  module _ (lawful : Lawful R) where
    definition_formed : (before : List Name) (x : Name) → Stood S R before x × (Among before x → ⊥) → DefinitionFormed (ranges S) (map (defined S R) before) (defined S R x)
    definition_formed before x h = record {
      definable = h.0.definable;
      numbers = h.0.numbers;
      fresh = rw names-defined h.1;
      body = rw names-defined (right S before h.0.body);
    }

    definitions_formed : Each (DefinitionFormed (ranges S)) [] (map (defined S R) (names S R))
    definitions_formed =
        each_map (defined S R) (DefinitionFormed (ranges S)) [] (names S R)
        (each_like (λ b x. Stood S R b x × (Among b x → ⊥)) (λ b x. DefinitionFormed (ranges S) (map (defined S R) b) (defined S R x)) definition_formed [] (names S R)
        (each_both (Stood S R) (λ b x. Among b x → ⊥) [] (names S R) (ordered S R formed lawful) (fresh S R formed.few_automata formed.few_variables formed.events (few_transitions S R formed))))

    guards_formed : (p : Place) (gs : List (T.Tree T.expr)) → All (Said S R p) gs → GuardsFormed (model_of S R) p gs
    guards_formed p gs h =
        all_each (Right (ranges S) (names_of (map (defined S R) (names S R))) p Guard) [] gs
        (all_like (Said S R p) (Right (ranges S) (names_of (map (defined S R) (names S R))) p Guard) (λ g i. rw names-defined (right S (names S R) i)) gs h)

    model_formed : ModelFormed (model_of S R)
    model_formed = record {
      rule_low = lawful.number_low;
      rule_high = lawful.number_high;
      ranges = ranges_formed;
      few_definitions = rw length-map (few_names S R formed);
      definitions = definitions_formed;
      starts = guards_formed of-state (model_of S R).starts (said_starts S R formed);
      steps = guards_formed of-step (model_of S R).steps (said_steps S R formed);
      always = guards_formed of-state (model_of S R).always (said_always S R formed);
      reachable = rw names-defined (right S (names S R) (said_reachable S R));
    }

pub models_formed : ModelsAreFormed
models_formed S R formed lawful = model_formed S R formed lawful
