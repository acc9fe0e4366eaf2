-- Each definition of a system's model keeps what a text asks, by names that are declared or stand above it.
use Rattle.std.proofs.Common.{◌≡◌, ℕ, zero, suc, pred, ◌<◌, ◌≤◌, true, List, [], ◌∷◌, ◌++◌, length, refl, inr, arith, lit≤}
use Rattle.std.proofs.lemmas.List.{length-append}
use Rattle.std.proofs.lemmas.Int.{ints}
use Rattle.expr.specs.Expr.{Expr, term, Formed}
use Rattle.expr.specs.declared.code.Order.TheVariants.{Eq, Lt}
use Rattle.clash.specs.Rules.{ClashRule, Lawful}
use Rattle.system.specs.System.{Automaton, System}
use Rattle.system.specs.Formed.{All, TransitionFormed, AutomatonFormed, WellFormed}
use Rattle.system.proofs.Eaches.{all_like, all_append}
use Rattle.model_text.specs.declared.words.Kind.TheVariants.{Term}
use Rattle.model_text.specs.declared.words.Single.TheVariants.{SettledValue, Permission, PlantsOpen, LocationMarked}
use Rattle.model_text.specs.declared.words.Double.TheVariants.{Transition as Choices, WishStatus, WishValue, JoinedStatus, JoinedValue, Open}
use Rattle.model_text.specs.declared.words.Name.{Name}
use Rattle.model_text.specs.declared.words.Name.TheVariants as N
use Rattle.model_text.specs.Words.{GoodName}
use Rattle.model_text.specs.Lists.{up_to}
use Rattle.model_text.specs.Trees as T
use Rattle.model_text.specs.Kinds.{kind_of}
use Rattle.model_text.specs.Scopes.{of-state, with-inputs, Definable, place_of, Among}
use Rattle.translation.specs.Systems.{automaton, variable, transition, idle_transition, plant_with}
use Rattle.translation.specs.Written.{count, written, variable_name, join_name, settle_name, is_at}
use Rattle.translation.specs.Cases.{only_if, wish_case, openings, marked_at}
use Rattle.translation.specs.Translate.{unmarked_values, last_automaton, shut_plants, unmarked, body, choices}
use Rattle.translation.proofs.Indexed.{only_if_lem, all_at, all_up_to, among-left, length_up_to}
use Rattle.translation.proofs.Fine.{Usable, Fine, fine_more, fine_name, fine_count, fine_number, fine_test, fine_compared}
use Rattle.translation.proofs.Expressions.{fine_written, fine_plain}
use Rattle.translation.proofs.Bodies.{Entry, fine_case, fine_marked, fine_outside, fine_taken, fine_openings, fine_wish, length_openings, length_marked}
use Rattle.translation.proofs.Counts.{few_transitions}
use Rattle.translation.proofs.Parts.{Here, small_value, automaton_formed, variable_formed, good_automaton, good_variable, good_event, event_usable, choice_usable, location_usable, variable_usable, above}

-- the definition of a name, below those of others
pub record Stood (S : System) (R : ClashRule) (before : List Name) (x : Name) : Type 0 where
  pub definable : Definable x
  pub numbers : GoodName x
  pub body : Fine (Here S before (place_of x)) (place_of x) 24 16000000 (kind_of x) (body S R x)

below_last : (n : ℕ) → n ≤ 12 → pred n ≤ 999
below_last n l = omega arith

-- what a join of wishes for variable i needs at automaton k
abbrev pub Joinable : List Name → ℕ → ℕ → Type 0
Joinable before i zero = Among before (N.Two WishStatus i 0) × Among before (N.Two WishValue i 0)
Joinable before i (suc k) = (v : ℕ) → Among before (join_name i k v)

pub joinable_more : (before more : List Name) (i k : ℕ) → Joinable before i k → Joinable (before ++ more) i k
joinable_more before more i zero h = (among-left before more _ h.0, among-left before more _ h.1)
joinable_more before more i (suc k) h = λ v. among-left before more _ (h v)

module _ (S : System) (R : ClashRule) (formed : WellFormed S) (lawful : Lawful R) (before : List Name) where
  abbrev n_a : ℕ
  n_a = length S.automata

  abbrev n_v : ℕ
  n_v = length S.variables

  abbrev n_e : ℕ
  n_e = length S.kinds

  -- the names that the definitions of a state use, and those of others
  abbrev Still : Name → Type 0
  Still = Here S before of-state

  abbrev Moving : Name → Type 0
  Moving = Here S before with-inputs

  event : Usable Moving Term N.Event
  event = event_usable S formed before with-inputs tt

  moving_variable : (i : ℕ) → i < n_v → Usable Moving Term (variable_name i)
  moving_variable i l = variable_usable S formed before with-inputs i l tt

  still_variable : (i : ℕ) → i < n_v → Usable Still Term (variable_name i)
  still_variable i l = variable_usable S formed before of-state i l refl

  -- the names of an automaton
  module _ (k : ℕ) (l : k < n_a) where
    abbrev A : Automaton
    A = automaton S k

    parts : AutomatonFormed n_e n_v A
    parts = automaton_formed S formed k l

    good : k ≤ 999
    good = good_automaton S formed k l

    few : length A.transitions ≤ 512
    few = few_transitions S R formed k l

    pub stood_choice : (j : ℕ) → j < choices S R k → Stood S R before (N.Two Choices k j)
    stood_choice zero h = record {
      definable = tt;
      numbers = (good, lit≤ tt);
      body = fine_more (fine_outside Moving with-inputs event A.alphabet parts.head.few_events (all_like (λ e. e < n_e) (λ e. e < 64) (λ e g. omega (arith, formed.events)) A.alphabet parts.head.known)) (lit≤ tt) (lit≤ tt);
    }
    stood_choice (suc j) h =
        let inside : j < length A.transitions = omega arith in
        record {
          definable = tt;
          numbers = (good, omega (arith, few));
          body =
              fine_more
              (fine_taken Moving with-inputs n_e n_v formed.events A parts.head moving_variable k (location_usable S formed before with-inputs k l tt) event
              (transition A.transitions j) (all_at (TransitionFormed n_e n_v A) A.transitions parts.transitions j idle_transition inside))
              (lit≤ tt)
              (lit≤ tt);
        }

    wish : (f : Expr term → T.Tree T.expr) → ((e : Expr term) → Formed n_v e → Fine Moving with-inputs 16 7650 Term (f e)) → (i : ℕ) → Fine Moving with-inputs 24 16000000 Term (T.choose (wish_case f i k 1 A.transitions))
    wish f writes i =
        fine_wish Moving with-inputs n_e n_v formed.events A parts.head moving_variable f writes i k (choice_usable S formed before with-inputs k l tt) A.transitions few parts.transitions

    pub stood_status : (i : ℕ) → i < n_v → Stood S R before (N.Two WishStatus i k)
    stood_status i h = record {
      definable = tt;
      numbers = (good_variable S formed i h, good);
      body = wish (λ _. count 1) (λ e _. fine_more (fine_count (let g : 1 ≤ 32768 = lit≤ tt in g)) (lit≤ tt) (lit≤ tt)) i;
    }

    pub stood_value : (i : ℕ) → i < n_v → Stood S R before (N.Two WishValue i k)
    stood_value i h = record {
      definable = tt;
      numbers = (good_variable S formed i h, good);
      body = wish (written variable_name) (λ e g. fine_written variable_name n_v moving_variable e g (inr (λ i d. d))) i;
    }

    pub stood_mark : Stood S R before (N.One LocationMarked k)
    stood_mark = record {
      definable = tt;
      numbers = good;
      body =
          fine_case Still of-state 1 0 (lit≤ tt) (lit≤ tt) (marked_at k 0 A.marks)
          (fine_marked Still of-state k (location_usable S formed before of-state k l refl) 0 A.marks (omega (arith, parts.head.locations)))
          (omega (arith, length_marked k 0 A.marks, parts.head.locations));
    }

    pub stood_open : (e : ℕ) → e < n_e → Stood S R before (N.Two Open e k)
    stood_open e h = record {
      definable = tt;
      numbers = (good_event S formed e h, good);
      body =
          fine_case Still of-state 1 0 (lit≤ tt) (lit≤ tt) (openings e k A.transitions)
          (fine_openings Still of-state n_e n_v formed.events A parts.head still_variable k (location_usable S formed before of-state k l refl) e A.transitions parts.transitions)
          (omega (arith, length_openings e k A.transitions, few));
    }

  -- the wishes for a variable, joined and settled
  module _ (i : ℕ) (h : i < n_v) where
    fit : i ≤ 999
    fit = good_variable S formed i h

    join_usable : (k : ℕ) → suc k < n_a → Joinable before i (suc k) → (v : ℕ) → v < 4 → Usable Moving Term (join_name i k v)
    join_usable k l j zero _ = above S before with-inputs _ (j 0) tt refl (fit, omega (arith, formed.few_automata))
    join_usable k l j (suc zero) _ = above S before with-inputs _ (j 1) tt refl (fit, omega (arith, formed.few_automata))
    join_usable k l j (suc (suc zero)) _ = above S before with-inputs _ (j 2) tt refl (fit, good_automaton S formed (suc k) l)
    join_usable k l j (suc (suc (suc v))) _ = above S before with-inputs _ (j 3) tt refl (fit, good_automaton S formed (suc k) l)

    pub stood_joined_status : (k : ℕ) → k < n_a → Joinable before i k → Stood S R before (N.Two JoinedStatus i k)
    stood_joined_status zero l j = record {
      definable = tt;
      numbers = (fit, lit≤ tt);
      body = fine_more (fine_name (above S before with-inputs (N.Two WishStatus i 0) j.0 tt refl (fit, lit≤ tt))) (lit≤ tt) (lit≤ tt);
    }
    stood_joined_status (suc k) l j = record {
      definable = tt;
      numbers = (fit, good_automaton S formed (suc k) l);
      body = fine_more (fine_plain (join_name i k) 4 (join_usable k l j) R.joined_status lawful.status_plain) (lit≤ tt) (lit≤ tt);
    }

    pub stood_joined_value : (k : ℕ) → k < n_a → Joinable before i k → Stood S R before (N.Two JoinedValue i k)
    stood_joined_value zero l j = record {
      definable = tt;
      numbers = (fit, lit≤ tt);
      body = fine_more (fine_name (above S before with-inputs (N.Two WishValue i 0) j.1 tt refl (fit, lit≤ tt))) (lit≤ tt) (lit≤ tt);
    }
    stood_joined_value (suc k) l j = record {
      definable = tt;
      numbers = (fit, good_automaton S formed (suc k) l);
      body = fine_more (fine_plain (join_name i k) 4 (join_usable k l j) R.joined_value lawful.value_plain) (lit≤ tt) (lit≤ tt);
    }

    module _ (status : Among before (N.Two JoinedStatus i (last_automaton S R))) (value : Among before (N.Two JoinedValue i (last_automaton S R))) where
      settle_usable : (v : ℕ) → v < 3 → Usable Moving Term (settle_name i (last_automaton S R) v)
      settle_usable zero _ = above S before with-inputs _ status tt refl (fit, below_last n_a formed.few_automata)
      settle_usable (suc zero) _ = above S before with-inputs _ value tt refl (fit, below_last n_a formed.few_automata)
      settle_usable (suc (suc v)) _ = moving_variable i h

      pub stood_settled : Stood S R before (N.One SettledValue i)
      stood_settled = record {
        definable = tt;
        numbers = fit;
        body = fine_more (fine_plain (settle_name i (last_automaton S R)) 3 settle_usable R.settled_value lawful.settled_plain) (lit≤ tt) (lit≤ tt);
      }

      pub stood_permission : Stood S R before (N.One Permission i)
      stood_permission = record {
        definable = tt;
        numbers = fit;
        body = fine_more (fine_plain (settle_name i (last_automaton S R)) 3 settle_usable R.permission lawful.permission_plain) (lit≤ tt) (lit≤ tt);
      }

  -- a guard of a case that asks whether a name above is 0
  still_zero : (x : Name) → Among before x → place_of x ≡ of-state → kind_of x ≡ Term → GoodName x → Entry Still of-state (is_at x 0)
  still_zero x h a k g = fine_more (fine_compared Eq (above S before of-state x h a k g) (lit≤ tt)) (lit≤ tt) (lit≤ tt)

  -- the plants with an event
  pub stood_plants : (e : ℕ) → e < n_e → ((k : ℕ) → k < n_a → plant_with S e k ≡ true → Among before (N.Two Open e k)) → Stood S R before (N.One PlantsOpen e)
  stood_plants e h opened =
      let guard = λ (k : ℕ). is_at (N.Two Open e k) 0 in
      record {
        definable = tt;
        numbers = good_event S formed e h;
        body =
            fine_case Still of-state 0 1 (lit≤ tt) (lit≤ tt) (shut_plants S R e)
            (all_up_to (Entry Still of-state) n_a (λ k. only_if (plant_with S e k) (guard k))
            (λ k l. only_if_lem (All (Entry Still of-state)) (plant_with S e k) (guard k) tt (λ g. (still_zero (N.Two Open e k) (opened k l g) refl refl (good_event S formed e h, good_automaton S formed k l), tt))))
            (omega (
              arith,
              formed.few_automata,
              length_up_to n_a 1 (λ k. only_if (plant_with S e k) (guard k)) (λ k _. only_if_lem (λ xs. length xs ≤ 1) (plant_with S e k) (guard k) (lit≤ tt) (λ _. lit≤ tt)),
            ));
      }

  fine_unmarked : (i : ℕ) → i < n_v → All (Entry Still of-state) (unmarked_values i (variable S i))
  fine_unmarked i h =
      let v = variable_formed S formed i h in
      let low = small_value (variable S i).marked_low (omega (arith, ints, v.bottom, v.marked_bottom)) (omega (arith, ints, v.marked_some, v.marked_top, v.top)) in
      let high = small_value (variable S i).marked_high (omega (arith, ints, v.bottom, v.marked_bottom, v.marked_some)) (omega (arith, ints, v.marked_top, v.top)) in (
        fine_more (fine_test Lt (fine_name (still_variable i h)) (fine_number (variable S i).marked_low low)) (lit≤ tt) (lit≤ tt),
        (fine_more (fine_test Lt (fine_number (variable S i).marked_high high) (fine_name (still_variable i h))) (lit≤ tt) (lit≤ tt), tt),
      )

  pub stood_marked : ((k : ℕ) → k < n_a → Among before (N.One LocationMarked k)) → Stood S R before N.Marked
  stood_marked mark =
      let As = up_to n_a (λ k. is_at (N.One LocationMarked k) 0 ∷ []) in
      let Vs = up_to n_v (λ i. unmarked_values i (variable S i)) in
      record {
        definable = tt;
        numbers = tt;
        body =
            fine_case Still of-state 0 1 (lit≤ tt) (lit≤ tt) (unmarked S R)
            (all_append (Entry Still of-state) As Vs
            (all_up_to (Entry Still of-state) n_a _ (λ k l. (still_zero (N.One LocationMarked k) (mark k l) refl refl (good_automaton S formed k l), tt)))
            (all_up_to (Entry Still of-state) n_v _ fine_unmarked))
            (omega (
              arith,
              length-append As Vs,
              length_up_to n_a 1 (λ k. is_at (N.One LocationMarked k) 0 ∷ []) (λ k _. lit≤ tt),
              length_up_to n_v 2 (λ i. unmarked_values i (variable S i)) (λ i _. lit≤ tt),
              formed.few_automata,
              formed.few_variables,
            ));
      }
