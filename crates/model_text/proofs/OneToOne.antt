-- Printing is one-to-one on well-formed models: their lines are good ones.
use Rattle.std.proofs.Common.{ℕ, zero, suc, ◌<◌, ◌≤◌, List, [], ◌∷◌, ◌++◌, map, length, ℤ, pos, negsuc, ◌≤ℤ◌, arith}
use Rattle.std.proofs.lemmas.Int.{ints}
use lib.Signed.{mag}
use Rattle.scan.specs.Stands.{Each}
use Rattle.std.specs.List.{AllByRecursion as All}
use Rattle.std.proofs.ByRecursion.{All-append, All-get_or, All-map, All-push}
use Rattle.model_text.specs.declared.words.Constraint.{Constraint}
use Rattle.model_text.specs.declared.words.Constraint.TheVariants.{Start, Step, Always}
use Rattle.model_text.specs.declared.words.Single.{Single}
use Rattle.model_text.specs.declared.words.Single.TheVariants.{Choice, Location}
use Rattle.model_text.specs.Lists.{up_to}
use Rattle.model_text.specs.Trees.{expr, Tree, Good}
use Rattle.model_text.specs.Ranges.{Span, SpanFormed, Ranges, RangesFormed}
use Rattle.model_text.specs.Lines.{Definition, define, constrain}
use Rattle.model_text.specs.Models.{Model, no_span, count_ranges, span_range, value_ranges, declarations, lines}
use Rattle.model_text.specs.Scopes.{Place, of-state, of-step}
use Rattle.model_text.specs.Formed.{DefinitionFormed, GuardsFormed, ModelFormed, PrintingOneToOne}
use Rattle.model_text.proofs.LineOnce.{GoodLine, same_lines}
use Rattle.model_text.proofs.Gather.{same_model}

all_each : {A : Type 0} (Q : List A → A → Type 0) (P : A → Type 0) → ((before : List A) (x : A) → Q before x → P x) → (before xs : List A) → Each Q before xs → All P xs
all_each Q P f before [] h = tt
all_each Q P f before (x ∷ xs) h = (f before x h.0, all_each Q P f (before ++ x ∷ []) xs h.1)

all_up_to : {A : Type 0} (P : A → Type 0) (n : ℕ) (f : ℕ → A) → ((k : ℕ) → k < n → P (f k)) → All P (up_to n (λ k. f k ∷ []))
all_up_to P zero f h = tt
all_up_to P (suc n) f h = All-push P (up_to n (λ k. f k ∷ [])) (f n) (all_up_to P n f (λ k l. h k (omega arith))) (h n (omega arith))

mag_small : (z : ℤ) → negsuc 999 ≤ℤ z → z ≤ℤ pos 1000 → mag z ≤ 1000
mag_small (pos n) low high = omega (arith, ints)
mag_small (negsuc n) low high = omega (arith, ints)

good_counts : (x : Single) (ns : List ℕ) → length ns ≤ 12 → All (λ n. n ≤ 1000) ns → All GoodLine (count_ranges x ns)
good_counts x ns few a =
    all_up_to GoodLine (length ns) _ (λ k l. (omega arith, omega arith, All-get_or (λ n. n ≤ 1000) ns k 0 l a))

abbrev GoodSpan : Span → Type 0
GoodSpan v = (mag v.low ≤ 1000) × (mag v.high ≤ 1000)

good_span : (v : Span) → SpanFormed v → GoodSpan v
good_span v f = (mag_small v.low f.bottom (omega (arith, ints)), mag_small v.high (omega (arith, ints)) f.top)

good_values : (vs : List Span) → length vs ≤ 12 → All GoodSpan vs → All GoodLine (value_ranges vs)
good_values vs few a =
    all_up_to GoodLine (length vs) (λ i. span_range vs i)
    (λ k l. let g = All-get_or GoodSpan vs k no_span l a in (omega arith, g.0, g.1))

good_guards : (M : Model) (p : Place) (c : Constraint) (gs : List (Tree expr)) → GuardsFormed M p gs → All GoodLine (map (constrain c) gs)
good_guards M p c gs h = All-map GoodLine (constrain c) gs (all_each _ Good (λ _ g r. r.shaped.good) [] gs h)

good_definitions : (r : Ranges) (ds : List Definition) → Each (DefinitionFormed r) [] ds → All GoodLine (map define ds)
good_definitions r ds h = All-map GoodLine define ds (all_each _ (λ d. GoodLine (define d)) (λ _ d f. (f.numbers, f.body.shaped.good)) [] ds h)

good_declarations : (n : ℕ) (r : Ranges) → n ≤ 999 → RangesFormed r → All GoodLine (declarations n r)
good_declarations n r small f =
    let choices = good_counts Choice r.choices (omega arith) (all_each _ _ (λ _ n l. omega arith) [] r.choices f.choices) in
    let locations = good_counts Location r.locations (omega arith) (all_each _ _ (λ _ n l. omega arith) [] r.locations f.locations) in
    let values = good_values r.values (omega arith) (all_each _ _ (λ _ v s. good_span v s) [] r.values f.values) in (
      small,
      (
        tt,
        (
          tt,
          (
            (tt, omega arith, omega arith),
            All-append GoodLine (count_ranges Choice r.choices) _ choices (
              tt,
              All-append GoodLine (count_ranges Location r.locations) _ locations
                  (All-append GoodLine (value_ranges r.values) _ values (tt, tt)),
            ),
          ),
        ),
      ),
    )

pub good_lines : (M : Model) → ModelFormed M → All GoodLine (lines M)
good_lines M h =
    All-append GoodLine (declarations M.rule M.ranges) _ (good_declarations M.rule M.ranges h.rule_high h.ranges)
    (All-append GoodLine (map define M.definitions) _ (good_definitions M.ranges M.definitions h.definitions)
    (All-append GoodLine (map (constrain Start) M.starts) _ (good_guards M of-state Start M.starts h.starts)
    (All-append GoodLine (map (constrain Step) M.steps) _ (good_guards M of-step Step M.steps h.steps)
    (All-append GoodLine (map (constrain Always) M.always) _ (good_guards M of-state Always M.always h.always)
    (h.reachable.shaped.good, tt)))))

pub printing_one_to_one : PrintingOneToOne
printing_one_to_one M h =
    record { only = λ L g e. same_model L M (same_lines (lines L) (lines M) (good_lines L g) (good_lines M h) e) }
