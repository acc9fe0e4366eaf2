-- A text is that of one list of good lines at most.
use Rattle.std.proofs.Common.{◌≡◌, ℕ, ◌≤◌, cond, eqb, ltb, List, [], ◌∷◌, ◌++◌, get_or, ℤ, codes, decimal, sym, refl, ap, ◌∙◌, append_assoc, arith}
use lib.Signed.{mag}
use Rattle.std.specs.List.{AllByRecursion as All, flat_map}
use Rattle.std.specs.Fmt.{signed_decimal}
use Rattle.std.proofs.lemmas.List.{append_cancel_left}
use Rattle.std.proofs.lemmas.Bool.{lt-ltb, ne_eqb}
use Rattle.model_text.specs.declared.words.Name.{Name}
use Rattle.model_text.specs.declared.words.Heading.{Heading}
use Rattle.model_text.specs.declared.words.Heading.TheVariants.{Module, Inputs, State, Definitions}
use Rattle.model_text.specs.declared.words.Constraint.{Constraint}
use Rattle.model_text.specs.declared.words.Constraint.TheVariants.{Start, Step, Always, Reachable}
use Rattle.model_text.specs.Words.{name_text, GoodName}
use Rattle.model_text.specs.Trees.{expr, Tree, Good}
use Rattle.model_text.specs.Lines.{Definition, Line, rule, heading, range, define, constrain, heading_text, constraint_text, line_text}
use Rattle.model_text.proofs.Munch.{Figure, one_value, one_count}
use Rattle.model_text.proofs.Spelling.{one_name, name-low}
use Rattle.model_text.proofs.Unique.{printed, print-on, begins, stop_space, stop_semicolon, ends_by, unique}

-- the numbers of a line are in range
abbrev pub GoodLine : Line → Type 0
GoodLine (rule n) = n ≤ 999
GoodLine (heading h) = Unit {0}
GoodLine (range x low high) = GoodName x × (mag low ≤ 1000) × (mag high ≤ 1000)
GoodLine (define d) = GoodName d.name × Good d.body
GoodLine (constrain c g) = Good g

-- a line and what follows, with the pieces in a row
abbrev pub line_on : Line → List ℕ → List ℕ
line_on (rule n) r = codes "-- rule " ++ (decimal n ++ (10 ∷ r))
line_on (heading h) r = heading_text h ++ (10 ∷ r)
line_on (range x low high) r = name_text x ++ (codes " : " ++ (signed_decimal low ++ (codes ".." ++ (signed_decimal high ++ (codes ";\n" ++ r)))))
line_on (define d) r = name_text d.name ++ (codes " := " ++ printed d.body (codes ";\n" ++ r))
line_on (constrain c g) r = constraint_text c ++ printed g (codes ";\n" ++ r)

pub line_on_lem : (l : Line) (r : List ℕ) → line_text l ++ r ≡ line_on l r
line_on_lem (rule n) r = simp append_assoc
line_on_lem (heading h) r = append_assoc (heading_text h) (codes "\n") r
line_on_lem (range x low high) r = simp append_assoc
line_on_lem (define d) r = simp append_assoc (ap (λ z. name_text d.name ++ (codes " := " ++ z)) (print-on d.body (codes ";\n" ++ r)))
line_on_lem (constrain c g) r = simp append_assoc (ap (λ z. constraint_text c ++ z) (print-on g (codes ";\n" ++ r)))

-- what a line's first bytes say of it
data Head : Type 0 where
  none of-rule of-name : Head
  of_heading : Heading → Head
  of_constraint : Constraint → Head

abbrev head : Line → Head
head (rule n) = of-rule
head (heading h) = of_heading h
head (range x low high) = of-name
head (define d) = of-name
head (constrain c g) = of_constraint c

abbrev head_of : List ℕ → Head
head_of xs =
    cond (ltb 96 (get_or xs 0 0)) of-name
    (cond (eqb (get_or xs 0 0) 45) of-rule
    (cond (eqb (get_or xs 0 0) 77) (of_heading Module)
    (cond (eqb (get_or xs 0 0) 86) (of_heading State)
    (cond (eqb (get_or xs 0 0) 68) (of_heading Definitions)
    (cond (eqb (get_or xs 0 0) 73) (cond (eqb (get_or xs 1 0) 86) (of_heading Inputs) (of_constraint Start))
    (cond (eqb (get_or xs 0 0) 84) (of_constraint Step)
    (cond (eqb (get_or xs 0 0) 83) (cond (eqb (get_or xs 8 0) 69) (of_constraint Reachable) (of_constraint Always)) none)))))))

name-head : (x : Name) (r : List ℕ) → head_of (name_text x ++ r) ≡ of-name
name-head x r = rw (lt-ltb 96 (get_or (name_text x ++ r) 0 0) (name-low x r))

head_of_lem : (l : Line) (r : List ℕ) → GoodLine l → head_of (line_on l r) ≡ head l
head_of_lem (rule n) r g = refl
head_of_lem (heading Module) r g = refl
head_of_lem (heading Inputs) r g = refl
head_of_lem (heading State) r g = refl
head_of_lem (heading Definitions) r g = refl
head_of_lem (range x low high) r g = name-head x _
head_of_lem (define d) r g = name-head d.name _
head_of_lem (constrain Start e) r g = refl
head_of_lem (constrain Step e) r g = refl
head_of_lem (constrain Always e) r g = rw (ne_eqb (get_or (printed e (codes ";\n" ++ r)) 0 0) 69 (begins e (codes ";\n" ++ r) g).not_E)
head_of_lem (constrain Reachable e) r g = refl

same_head : (l m : Line) (r q : List ℕ) → GoodLine l → GoodLine m → line_on l r ≡ line_on m q → head l ≡ head m
same_head l m r q g h e = sym (head_of_lem l r g) ∙ ap head_of e ∙ head_of_lem m q h

not_feed : Figure 10 → ⊥
not_feed f = omega (arith, f.low)

not_dot : Figure 46 → ⊥
not_dot f = f.not_dot refl

not_semicolon : Figure 59 → ⊥
not_semicolon f = omega (arith, f.high)

same_definition : (d f : Definition) → d.name ≡ f.name → d.body ≡ f.body → d ≡ f
same_definition d f p q = λ i. record { name = p i; body = q i }

one_rule : (n m : ℕ) (r q : List ℕ) → n ≤ 999 → m ≤ 999 → line_on (rule n) r ≡ line_on (rule m) q → (rule n ≡ rule m) × (r ≡ q)
one_rule n m r q g h e =
    let p = one_count n m (10 ∷ r) (10 ∷ q) (omega arith) (omega arith) not_feed not_feed (append_cancel_left (codes "-- rule ") _ _ e) in
    let j = p.1 in
    (ap rule p.0, cc)

one_range : (x y : Name) (a b c d : ℤ) (r q : List ℕ) → GoodLine (range x a b) → GoodLine (range y c d) → line_on (range x a b) r ≡ line_on (range y c d) q → (range x a b ≡ range y c d) × (r ≡ q)
one_range x y a b c d r q g h e =
    let i = one_name x y _ _ g.0 h.0 stop_space stop_space e in
    let j = one_value a c _ _ (omega (arith, g.1)) (omega (arith, h.1)) not_dot not_dot (append_cancel_left (codes " : ") _ _ i.1) in
    let k = one_value b d _ _ (omega (arith, g.2)) (omega (arith, h.2)) not_semicolon not_semicolon (append_cancel_left (codes "..") _ _ j.1) in
    (let u = i.0 in let v = j.0 in let w = k.0 in cc, append_cancel_left (codes ";\n") r q k.1)

one_define : (d f : Definition) (r q : List ℕ) → GoodLine (define d) → GoodLine (define f) → line_on (define d) r ≡ line_on (define f) q → (define d ≡ define f) × (r ≡ q)
one_define d f r q g h e =
    let i = one_name d.name f.name _ _ g.0 h.0 stop_space stop_space e in
    let j = unique d.body f.body _ _ g.1 h.1 (ends_by d.body 59 _ stop_semicolon) (ends_by f.body 59 _ stop_semicolon) (append_cancel_left (codes " := ") _ _ i.1) in
    (ap define (same_definition d f i.0 j.0), append_cancel_left (codes ";\n") r q j.1)

-- the second byte after the name is a space or an equals sign
not_both : (x : Name) (a b : ℤ) (d : Definition) (r q : List ℕ) → GoodLine (range x a b) → GoodLine (define d) → line_on (range x a b) r ≡ line_on (define d) q → ⊥
not_both x a b d r q g h e =
    let i = one_name x d.name _ _ g.0 h.0 stop_space stop_space e in
    let j : ◌≡◌ {A = ℕ} 32 61 = ap (λ z. get_or z 2 0) i.1 in
    omega arith

one_heading : (h k : Heading) (r q : List ℕ) → h ≡ k → line_on (heading h) r ≡ line_on (heading k) q → (heading h ≡ heading k) × (r ≡ q)
one_heading h k r q p e =
    let i = append_cancel_left (heading_text k) (10 ∷ r) (10 ∷ q) (rw p at e) in
    (ap heading p, cc)

one_constrain : (c d : Constraint) (e f : Tree expr) (r q : List ℕ) → Good e → Good f → c ≡ d → line_on (constrain c e) r ≡ line_on (constrain d f) q → (constrain c e ≡ constrain d f) × (r ≡ q)
one_constrain c d e f r q g h p s =
    let i = unique e f _ _ g h (ends_by e 59 _ stop_semicolon) (ends_by f 59 _ stop_semicolon) (append_cancel_left (constraint_text d) _ _ (rw p at s)) in
    (let u = i.0 in cc, append_cancel_left (codes ";\n") r q i.1)

one_on : (l m : Line) (r q : List ℕ) → GoodLine l → GoodLine m → line_on l r ≡ line_on m q → (l ≡ m) × (r ≡ q)
one_on (rule n) (rule m) r q g h e = one_rule n m r q g h e
one_on (rule n) (heading k) r q g h e = let z = same_head (rule n) (heading k) r q g h e in (cc, cc)
one_on (rule n) (range y v w) r q g h e = let z = same_head (rule n) (range y v w) r q g h e in (cc, cc)
one_on (rule n) (define f) r q g h e = let z = same_head (rule n) (define f) r q g h e in (cc, cc)
one_on (rule n) (constrain k u) r q g h e = let z = same_head (rule n) (constrain k u) r q g h e in (cc, cc)
one_on (heading c) (rule m) r q g h e = let z = same_head (heading c) (rule m) r q g h e in (cc, cc)
one_on (heading c) (heading k) r q g h e = let z = same_head (heading c) (heading k) r q g h e in one_heading c k r q (cc) e
one_on (heading c) (range y v w) r q g h e = let z = same_head (heading c) (range y v w) r q g h e in (cc, cc)
one_on (heading c) (define f) r q g h e = let z = same_head (heading c) (define f) r q g h e in (cc, cc)
one_on (heading c) (constrain k u) r q g h e = let z = same_head (heading c) (constrain k u) r q g h e in (cc, cc)
one_on (range x a b) (rule m) r q g h e = let z = same_head (range x a b) (rule m) r q g h e in (cc, cc)
one_on (range x a b) (heading k) r q g h e = let z = same_head (range x a b) (heading k) r q g h e in (cc, cc)
one_on (range x a b) (range y v w) r q g h e = one_range x y a b v w r q g h e
one_on (range x a b) (define f) r q g h e = absurd (not_both x a b f r q g h e)
one_on (range x a b) (constrain k u) r q g h e = let z = same_head (range x a b) (constrain k u) r q g h e in (cc, cc)
one_on (define d) (rule m) r q g h e = let z = same_head (define d) (rule m) r q g h e in (cc, cc)
one_on (define d) (heading k) r q g h e = let z = same_head (define d) (heading k) r q g h e in (cc, cc)
one_on (define d) (range y v w) r q g h e = absurd (not_both y v w d q r h g (sym e))
one_on (define d) (define f) r q g h e = one_define d f r q g h e
one_on (define d) (constrain k u) r q g h e = let z = same_head (define d) (constrain k u) r q g h e in (cc, cc)
one_on (constrain c t) (rule m) r q g h e = let z = same_head (constrain c t) (rule m) r q g h e in (cc, cc)
one_on (constrain c t) (heading k) r q g h e = let z = same_head (constrain c t) (heading k) r q g h e in (cc, cc)
one_on (constrain c t) (range y v w) r q g h e = let z = same_head (constrain c t) (range y v w) r q g h e in (cc, cc)
one_on (constrain c t) (define f) r q g h e = let z = same_head (constrain c t) (define f) r q g h e in (cc, cc)
one_on (constrain c t) (constrain k u) r q g h e = let z = same_head (constrain c t) (constrain k u) r q g h e in one_constrain c k t u r q g h (cc) e

-- a line and what follows it are told apart in one way
pub one_line : (l m : Line) (r q : List ℕ) → GoodLine l → GoodLine m → line_text l ++ r ≡ line_text m ++ q → (l ≡ m) × (r ≡ q)
one_line l m r q g h e = one_on l m r q g h (sym (line_on_lem l r) ∙ e ∙ line_on_lem m q)

some_head : (l : Line) → none ≡ head l → ⊥
some_head (rule n) e = cc
some_head (heading h) e = cc
some_head (range x a b) e = cc
some_head (define d) e = cc
some_head (constrain c g) e = cc

no_line : (l : Line) (r : List ℕ) → GoodLine l → [] ≡ line_on l r → ⊥
no_line l r g e = let z : none ≡ head l = ap head_of e ∙ head_of_lem l r g in some_head l z

pub same_lines : (xs ys : List Line) → All GoodLine xs → All GoodLine ys → flat_map line_text xs ≡ flat_map line_text ys → xs ≡ ys
same_lines [] [] a b e = refl
same_lines [] (y ∷ ys) a b e = absurd (no_line y (flat_map line_text ys) b.0 (e ∙ line_on_lem y (flat_map line_text ys)))
same_lines (x ∷ xs) [] a b e = absurd (no_line x (flat_map line_text xs) a.0 (sym e ∙ line_on_lem x (flat_map line_text xs)))
same_lines (x ∷ xs) (y ∷ ys) a b e =
    let i = one_line x y (flat_map line_text xs) (flat_map line_text ys) a.0 b.0 e in
    let j = same_lines xs ys a.1 b.1 i.1 in
    let k = i.0 in
    cc
