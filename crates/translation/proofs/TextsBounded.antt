-- The text of the model of every well-formed system under every lawful rule has at most 2 ^ 48 bytes.
use Rattle.std.proofs.Common.{ℕ, suc, ◌*◌, ◌^◌, ◌≤◌, List, [], ◌∷◌, ◌++◌, map, length, get_or, ℤ, pos, negsuc, ◌≤ℤ◌, arith, lit≤}
use Rattle.std.specs.List.{flat_map}
use Rattle.std.specs.Fmt.{signed_decimal}
use Rattle.std.proofs.lemmas.List.{length-append, length-map}
use Rattle.std.proofs.lemmas.Int.{ints}
use Rattle.clash.specs.Rules.{ClashRule, Lawful}
use Rattle.system.specs.System.{System}
use Rattle.system.specs.Formed.{All, WellFormed}
use Rattle.system.proofs.Eaches.{all_like, all_append, all_map, each_all, each_like}
use Rattle.model_text.specs.declared.words.Heading.{Heading}
use Rattle.model_text.specs.declared.words.Heading.TheVariants.{Module, Inputs, State, Definitions}
use Rattle.model_text.specs.declared.words.Constraint.{Constraint}
use Rattle.model_text.specs.declared.words.Constraint.TheVariants.{Start, Step, Always, Reachable}
use Rattle.model_text.specs.declared.words.Single.{Single}
use Rattle.model_text.specs.declared.words.Single.TheVariants.{Choice, Location, Variable}
use Rattle.model_text.specs.declared.words.Name.{Name}
use Rattle.model_text.specs.declared.words.Name.TheVariants as N
use Rattle.model_text.specs.Words.{GoodName}
use Rattle.model_text.specs.Trees as T
use Rattle.model_text.specs.Ranges.{Span, Ranges, SpanFormed, RangesFormed}
use Rattle.model_text.specs.Lines.{Definition, Line, rule, heading, range, define, constrain, constraint_text, line_text}
use Rattle.model_text.specs.Models.{count_ranges, no_span, span_range, value_ranges, declarations, lines, text}
use Rattle.model_text.specs.Scopes.{Place, of-state, of-step}
use Rattle.translation.specs.Translate.{names, defined, model_of}
use Rattle.translation.specs.Readable.{TextsAreBounded}
use Rattle.translation.proofs.Indexed.{all_at, all_up_to, length_up_to}
use Rattle.translation.proofs.Fine.{count-length, name-length}
use Rattle.translation.proofs.Counts.{few_names, few_starts, few_steps, few_always}
use Rattle.translation.proofs.Definitions.{Stood}
use Rattle.translation.proofs.Ordered.{ordered}
use Rattle.translation.proofs.Constraints.{Said, said_starts, said_steps, said_always, said_reachable}
use Rattle.translation.proofs.ModelsFormed.{ranges_formed}

length_joined : {X A : Type 0} (f : X → List A) (n : ℕ) (xs : List X) → All (λ x. length (f x) ≤ n) xs → length (flat_map f xs) ≤ length xs * n
length_joined f n [] h = omega arith
length_joined f n (x ∷ xs) h =
    let a = length-append (f x) (flat_map f xs) in
    let b = length_joined f n xs h.1 in
    let c = h.0 in
    omega arith

few_together : {X : Type 0} (A B C D E F : List X) → length A ≤ 42 → length B ≤ 2048 → length C ≤ 24 → length D ≤ 536 → length E ≤ 768 → length F ≤ 1 → length (A ++ (B ++ (C ++ (D ++ (E ++ F))))) ≤ 4096
few_together A B C D E F a b c d e f = simp length-append (omega arith)

together : (n m : ℕ) → n ≤ 4096 → m ≤ n * 17000000 → m ≤ 2 ^ 48
together n m l h = omega arith

abbrev Short : Line → Type 0
Short l = length (line_text l) ≤ 17000000

short_rule : (n : ℕ) → n ≤ 999 → Short (rule n)
short_rule n h = let a = count-length n (omega arith) in simp length-append (omega arith)

short_heading : (h : Heading) → Short (heading h)
short_heading Module = lit≤ tt
short_heading Inputs = lit≤ tt
short_heading State = lit≤ tt
short_heading Definitions = lit≤ tt

signed_length : (v : ℤ) → negsuc 999 ≤ℤ v → v ≤ℤ pos 1000 → length (signed_decimal v) ≤ 6
signed_length (pos n) l h = let g : n ≤ 1000 = omega (arith, ints) in let a = count-length n (omega arith) in omega arith
signed_length (negsuc n) l h = let g : n ≤ 999 = omega (arith, ints) in let a = count-length (suc n) (omega arith) in omega arith

short_range : (x : Name) (low high : ℤ) → GoodName x → length (signed_decimal low) ≤ 6 → length (signed_decimal high) ≤ 6 → Short (range x low high)
short_range x low high g l h = let a = name-length x g in simp length-append (omega arith)

short_count : (x : Name) (n : ℕ) → GoodName x → n ≤ 512 → Short (range x (pos 0) (pos n))
short_count x n g h = short_range x (pos 0) (pos n) g (omega (arith, count-length 0 (lit≤ tt))) (omega (arith, count-length n (omega arith)))

short_definition : (d : Definition) → GoodName d.name → length (T.print d.body) ≤ 16000000 → Short (define d)
short_definition d g h = let a = name-length d.name g in simp length-append (omega arith)

constraint_length : (c : Constraint) → length (constraint_text c) ≤ 11
constraint_length Start = lit≤ tt
constraint_length Step = lit≤ tt
constraint_length Always = lit≤ tt
constraint_length Reachable = lit≤ tt

short_constraint : (c : Constraint) (g : T.Tree T.expr) → length (T.print g) ≤ 16000000 → Short (constrain c g)
short_constraint c g h = let a = constraint_length c in simp length-append (omega arith)

-- the declarations of ranges within their limits
short_counts : (x : Single) (ns : List ℕ) → length ns ≤ 12 → All (λ n. n ≤ 512) ns → All Short (count_ranges x ns)
short_counts x ns few h =
    all_up_to Short (length ns) _
    (λ k l. let c : k ≤ 999 = omega arith in (short_count (N.One x k) (get_or ns k 0) c (all_at (λ n. n ≤ 512) ns h k 0 l), tt))

short_values : (vs : List Span) → length vs ≤ 12 → All SpanFormed vs → All Short (value_ranges vs)
short_values vs few h =
    all_up_to Short (length vs) _
    (λ i l. let v = all_at SpanFormed vs h i no_span l in
    let c : i ≤ 999 = omega arith in
    let span = get_or vs i no_span in (
      short_range (N.One Variable i) span.low span.high c
          (signed_length span.low v.bottom (omega (arith, ints, v.some, v.top)))
          (signed_length span.high (omega (arith, ints, v.bottom, v.some)) v.top),
      tt,
    ))

module _ (n : ℕ) (r : Ranges) (number : n ≤ 999) (formed : RangesFormed r) where
  abbrev state : List Line
  state = heading State ∷ (count_ranges Location r.locations ++ (value_ranges r.values ++ (heading Definitions ∷ [])))

  short_declarations : All Short (declarations n r)
  short_declarations =
      let few = formed.few_automata in (
        short_rule n number,
        (
          short_heading Module,
          (
            short_heading Inputs,
            (
              short_count N.Event r.events tt (omega (arith, formed.events)),
              all_append Short (count_ranges Choice r.choices) state
                  (short_counts Choice r.choices (omega (arith, formed.as_many)) (each_all (λ n. n ≤ 512) [] r.choices formed.choices)) (
                    short_heading State,
                    all_append Short (count_ranges Location r.locations) (value_ranges r.values ++ (heading Definitions ∷ []))
                        (short_counts Location r.locations few (all_like (λ n. n ≤ 63) (λ n. n ≤ 512) (λ n l. omega arith) r.locations (each_all (λ n. n ≤ 63) [] r.locations formed.locations)))
                        (all_append Short (value_ranges r.values) (heading Definitions ∷ []) (short_values r.values formed.few_variables (each_all SpanFormed [] r.values formed.values)) (short_heading Definitions, tt)),
                  ),
            ),
          ),
        ),
      )

  few_declarations : length (declarations n r) ≤ 42
  few_declarations =
      let V = value_ranges r.values in
      let a = length-append (count_ranges Choice r.choices) state in
      let b = length-append (count_ranges Location r.locations) (V ++ (heading Definitions ∷ [])) in
      let c = length-append V (heading Definitions ∷ []) in
      let d = length_up_to (length r.choices) 1 (λ k. range (N.One Choice k) (pos 0) (pos (get_or r.choices k 0)) ∷ []) (λ k _. lit≤ tt) in
      let e = length_up_to (length r.locations) 1 (λ k. range (N.One Location k) (pos 0) (pos (get_or r.locations k 0)) ∷ []) (λ k _. lit≤ tt) in
      let f = length_up_to (length r.values) 1 (λ i. span_range r.values i ∷ []) (λ i _. lit≤ tt) in
      omega (arith, formed.few_automata, formed.as_many, formed.few_variables)

module _ (S : System) (R : ClashRule) (formed : WellFormed S) (lawful : Lawful R) where
  short_definitions : All Short (map define (map (defined S R) (names S R)))
  short_definitions =
      all_map define Short (map (defined S R) (names S R))
      (all_map (defined S R) (λ d. Short (define d)) (names S R)
      (each_all (λ x. Short (define (defined S R x))) [] (names S R)
      (each_like (Stood S R) (λ _ x. Short (define (defined S R x))) (λ b x h. short_definition (defined S R x) h.numbers h.body.short) [] (names S R) (ordered S R formed lawful))))

  short_guards : (c : Constraint) (p : Place) (gs : List (T.Tree T.expr)) → All (Said S R p) gs → All Short (map (constrain c) gs)
  short_guards c p gs h = all_map (constrain c) Short gs (all_like (Said S R p) (λ g. Short (constrain c g)) (λ g f. short_constraint c g f.short) gs h)

  lines_short : All Short (lines (model_of S R))
  lines_short =
      let M = model_of S R in
      let B = map define M.definitions in
      let C = map (constrain Start) M.starts in
      let D = map (constrain Step) M.steps in
      let E = map (constrain Always) M.always in
      let F : List Line = constrain Reachable M.reachable ∷ [] in
      all_append Short (declarations M.rule M.ranges) (B ++ (C ++ (D ++ (E ++ F)))) (short_declarations M.rule M.ranges lawful.number_high (ranges_formed S R formed))
      (all_append Short B (C ++ (D ++ (E ++ F))) short_definitions
      (all_append Short C (D ++ (E ++ F)) (short_guards Start of-state M.starts (said_starts S R formed))
      (all_append Short D (E ++ F) (short_guards Step of-step M.steps (said_steps S R formed))
      (all_append Short E F (short_guards Always of-state M.always (said_always S R formed)) (short_constraint Reachable M.reachable (said_reachable S R).short, tt)))))

  lines_few : length (lines (model_of S R)) ≤ 4096
  lines_few =
      let M = model_of S R in
      few_together (declarations M.rule M.ranges) (map define M.definitions) (map (constrain Start) M.starts) (map (constrain Step) M.steps) (map (constrain Always) M.always) (constrain Reachable M.reachable ∷ [])
      (few_declarations M.rule M.ranges lawful.number_high (ranges_formed S R formed)) (rw (length-map, length-map) (few_names S R formed)) (rw length-map (few_starts S R formed)) (rw length-map (few_steps S R formed)) (rw length-map (few_always S R formed)) (lit≤ tt)

pub texts_bounded : TextsAreBounded
texts_bounded S R formed lawful =
    together (length (lines (model_of S R))) (length (text (model_of S R))) (lines_few S R formed lawful) (length_joined line_text 17000000 (lines (model_of S R)) (lines_short S R formed lawful))
