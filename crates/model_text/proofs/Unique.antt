-- A text is the printing of one tree at most, whatever follows it.
use Rattle.std.proofs.Common.{◌≡◌, ℕ, ◌≤◌, true, cond, eqb, List, [], ◌∷◌, ◌++◌, get_or, codes, decimal, sym, refl, ap, ◌∙◌, inl, inr, append_assoc, arith}
use Rattle.std.proofs.lemmas.List.{append_cancel_left}
use Rattle.std.proofs.lemmas.Bool.Decides.{nat_tests}
use Rattle.expr.specs.declared.code.Joint.TheVariants.{And, Or}
use Rattle.expr.specs.declared.code.Order.TheVariants.{Eq, Ne, Lt, Le}
use Rattle.expr.specs.declared.code.Sign.TheVariants.{Plus, Minus}
use Rattle.model_text.specs.declared.words.Operator.{Operator}
use Rattle.model_text.specs.declared.words.Operator.TheVariants.{Join, Test, Sum}
use Rattle.model_text.specs.declared.words.Name.TheVariants as N
use Rattle.model_text.specs.declared.words.Word.{Word}
use Rattle.model_text.specs.declared.words.Word.TheVariants as W
use Rattle.model_text.specs.Words.{name_text, spelled, GoodWord, operator_text, Stop, Stops}
use Rattle.model_text.specs.Trees.{Sort, expr, entries, Tree, word, next, minus, negate, binary, choose, last, entry, print, Good, Ends}
use Rattle.model_text.proofs.Munch.{Figure, one_count}
use Rattle.model_text.proofs.Spelling.{one_word, one_name, Initial, initial}

-- the text of a tree and what follows, with the pieces in a row
abbrev pub printed : {x : Sort} → Tree x → List ℕ → List ℕ
printed (word w) r = spelled w ++ r
printed (next x n) r = codes "next(" ++ (name_text (N.One x n) ++ (41 ∷ r))
printed (minus n) r = codes "(-" ++ (decimal n ++ (41 ∷ r))
printed (negate a) r = codes "(!" ++ printed a (41 ∷ r)
printed (binary o a b) r = 40 ∷ printed a (operator_text o ++ printed b (41 ∷ r))
printed (choose es) r = codes "(case " ++ printed es r
printed (last t) r = codes "TRUE : " ++ printed t (codes "; esac)" ++ r)
printed (entry g t es) r = printed g (codes " : " ++ printed t (codes "; " ++ printed es r))

pub print-on : {x : Sort} (e : Tree x) (r : List ℕ) → print e ++ r ≡ printed e r
print-on (word w) r = refl
print-on (next x n) r = ap (λ z. codes "next(" ++ z) (append_assoc (name_text (N.One x n)) (41 ∷ []) r)
print-on (minus n) r = ap (λ z. codes "(-" ++ z) (append_assoc (decimal n) (41 ∷ []) r)
print-on (negate a) r = ap (λ z. codes "(!" ++ z) (append_assoc (print a) (41 ∷ []) r ∙ print-on a (41 ∷ r))
print-on (binary o a b) r =
    ap (λ z. 40 ∷ z)
    (append_assoc (print a) (operator_text o ++ (print b ++ (41 ∷ []))) r
    ∙ ap (λ z. print a ++ z) (append_assoc (operator_text o) (print b ++ (41 ∷ [])) r ∙ ap (λ z. operator_text o ++ z) (append_assoc (print b) (41 ∷ []) r ∙ print-on b (41 ∷ r)))
    ∙ print-on a (operator_text o ++ printed b (41 ∷ r)))
print-on (choose es) r = ap (λ z. codes "(case " ++ z) (print-on es r)
print-on (last t) r = ap (λ z. codes "TRUE : " ++ z) (append_assoc (print t) (codes "; esac)") r ∙ print-on t (codes "; esac)" ++ r))
print-on (entry g t es) r =
    append_assoc (print g) (codes " : " ++ (print t ++ (codes "; " ++ print es))) r
    ∙ ap (λ z. print g ++ (codes " : " ++ z)) (append_assoc (print t) (codes "; " ++ print es) r ∙ ap (λ z. print t ++ (codes "; " ++ z)) (print-on es r) ∙ print-on t (codes "; " ++ printed es r))
    ∙ print-on g (codes " : " ++ printed t (codes "; " ++ printed es r))

-- the first two bytes of a tree and what follows it
pub record Begins (b d : ℕ) : Type 0 where
  pub low : 34 ≤ b
  pub not_minus : b ≡ 45 → ⊥
  pub not_E : b ≡ 69 → ⊥
  pub not_case : b ≡ 99 → d ≡ 97 → ⊥
  pub not_esac : b ≡ 101 → d ≡ 115 → ⊥

-- an open parenthesis, `T` or `n`, and any byte
begins_by : (b d : ℕ) → 34 ≤ b → (b ≡ 45 → ⊥) → (b ≡ 69 → ⊥) → (b ≡ 99 → ⊥) → (b ≡ 101 → ⊥) → Begins b d
begins_by b d l m n c s = record { low = l; not_minus = m; not_E = n; not_case = λ e _. c e; not_esac = λ e _. s e }

open_begins : (d : ℕ) → Begins 40 d
open_begins d = begins_by 40 d (omega arith) (λ e. omega arith) (λ e. omega arith) (λ e. omega arith) (λ e. omega arith)

pub begins : {x : Sort} (e : Tree x) (r : List ℕ) → Good e → Begins (get_or (printed e r) 0 0) (get_or (printed e r) 1 0)
begins (word w) r g =
    let i = initial w g r in
    record { low = omega (arith, i.low); not_minus = λ e. omega (arith, i.low); not_E = i.not_E; not_case = i.not_case; not_esac = i.not_esac }
begins (next x n) r g = begins_by 110 101 (omega arith) (λ e. omega arith) (λ e. omega arith) (λ e. omega arith) (λ e. omega arith)
begins (minus n) r g = open_begins _
begins (negate a) r g = open_begins _
begins (binary o a b) r g = open_begins _
begins (choose es) r g = open_begins _
begins (last t) r g = begins_by 84 82 (omega arith) (λ e. omega arith) (λ e. omega arith) (λ e. omega arith) (λ e. omega arith)
begins (entry g t es) r h = begins g _ h.0

-- what an expression's first three bytes say of it
data Shape : Type 0 where
  of_word of-next of-minus of-negate of-binary of-choose : Shape

abbrev shape : Tree expr → Shape
shape (word w) = of_word
shape (next x n) = of-next
shape (minus n) = of-minus
shape (negate a) = of-negate
shape (binary o a b) = of-binary
shape (choose es) = of-choose

abbrev inside : ℕ → ℕ → Shape
inside b d = cond (eqb b 45) of-minus (cond (eqb b 33) of-negate (cond (eqb b 99) (cond (eqb d 97) of-choose of-binary) of-binary))

abbrev outside : ℕ → ℕ → Shape
outside b d = cond (eqb b 110) (cond (eqb d 101) of-next of_word) of_word

abbrev shape_of : List ℕ → Shape
shape_of xs = cond (eqb (get_or xs 0 0) 40) (inside (get_or xs 1 0) (get_or xs 2 0)) (outside (get_or xs 0 0) (get_or xs 1 0))

outside-word : (b d : ℕ) (s : Shape) → Initial b d → cond (eqb b 40) s (outside b d) ≡ of_word
outside-word b d s i = let l = i.low in let n = i.not_next in grind (arith, nat_tests)

inside_binary : (b d : ℕ) → Begins b d → inside b d ≡ of-binary
inside_binary b d i = let l = i.low in let m = i.not_minus in let n = i.not_case in grind (arith, nat_tests)

shape-of : (e : Tree expr) (r : List ℕ) → Good e → shape_of (printed e r) ≡ shape e
shape-of (word w) r g = outside-word (get_or (spelled w ++ r) 0 0) (get_or (spelled w ++ r) 1 0) _ (initial w g r)
shape-of (next x n) r g = refl
shape-of (minus n) r g = refl
shape-of (negate a) r g = refl
shape-of (binary o a b) r g = inside_binary _ _ (begins a _ g.0)
shape-of (choose es) r g = refl

same_shape : (e f : Tree expr) (r q : List ℕ) → Good e → Good f → printed e r ≡ printed f q → shape e ≡ shape f
same_shape e f r q g h p = sym (shape-of e r g) ∙ ap shape_of p ∙ shape-of f q h

-- which operator a text begins with
abbrev operator_of : List ℕ → Operator
operator_of xs =
    cond (eqb (get_or xs 1 0) 38) (Join And)
    (cond (eqb (get_or xs 1 0) 124) (Join Or)
    (cond (eqb (get_or xs 1 0) 61) (Test Eq)
    (cond (eqb (get_or xs 1 0) 33) (Test Ne)
    (cond (eqb (get_or xs 1 0) 43) (Sum Plus)
    (cond (eqb (get_or xs 1 0) 45) (Sum Minus)
    (cond (eqb (get_or xs 2 0) 61) (Test Le) (Test Lt)))))))

operator_of_lem : (o : Operator) (r : List ℕ) → operator_of (operator_text o ++ r) ≡ o
operator_of_lem (Join And) r = refl
operator_of_lem (Join Or) r = refl
operator_of_lem (Test Eq) r = refl
operator_of_lem (Test Ne) r = refl
operator_of_lem (Test Lt) r = refl
operator_of_lem (Test Le) r = refl
operator_of_lem (Sum Plus) r = refl
operator_of_lem (Sum Minus) r = refl

pub one_operator : (o p : Operator) (r q : List ℕ) → operator_text o ++ r ≡ operator_text p ++ q → (o ≡ p) × (r ≡ q)
one_operator o p r q e =
    let same : o ≡ p = sym (operator_of_lem o r) ∙ ap operator_of e ∙ operator_of_lem p q in
    (same, append_cancel_left (operator_text p) r q (rw same at e))

pub stop_space : Stop 32
stop_space = record { stop = inl refl }

pub stop_close : Stop 41
stop_close = record { stop = inr (inl refl) }

pub stop_semicolon : Stop 59
stop_semicolon = record { stop = inr (inr refl) }

-- a byte that stops a word stops any tree
pub ends_by : {x : Sort} (e : Tree x) (b : ℕ) (r : List ℕ) → Stop b → Ends e (b ∷ r)
ends_by (word w) b r h = h
ends_by (next x n) b r h = tt
ends_by (minus n) b r h = tt
ends_by (negate a) b r h = tt
ends_by (binary o a c) b r h = tt
ends_by (choose es) b r h = tt
ends_by (last t) b r h = tt
ends_by (entry g t es) b r h = tt

-- an operator begins with a space
pub ends_operator : {x : Sort} (e : Tree x) (o : Operator) (r : List ℕ) → Ends e (operator_text o ++ r)
ends_operator e (Join And) r = ends_by e 32 _ stop_space
ends_operator e (Join Or) r = ends_by e 32 _ stop_space
ends_operator e (Test Eq) r = ends_by e 32 _ stop_space
ends_operator e (Test Ne) r = ends_by e 32 _ stop_space
ends_operator e (Test Lt) r = ends_by e 32 _ stop_space
ends_operator e (Test Le) r = ends_by e 32 _ stop_space
ends_operator e (Sum Plus) r = ends_by e 32 _ stop_space
ends_operator e (Sum Minus) r = ends_by e 32 _ stop_space

pub no_end : (es : Tree entries) (r : List ℕ) → Ends es r
no_end (last t) r = tt
no_end (entry g t es) r = tt

not_close : Figure 41 → ⊥
not_close f = omega (arith, f.low)

-- an expression that begins as a word does
pub unique_word : (w : Word) (f : Tree expr) (r q : List ℕ) → GoodWord w → Good f → Stops r → Ends f q → spelled w ++ r ≡ printed f q → (word w ≡ f) × (r ≡ q)
unique_word w (word v) r q g h s t e = let p = one_word w v r q g h s t e in (ap word p.0, p.1)
unique_word w (next x n) r q g h s t e = let c = same_shape (word w) (next x n) r q g h e in (cc, cc)
unique_word w (minus n) r q g h s t e = let c = same_shape (word w) (minus n) r q g h e in (cc, cc)
unique_word w (negate a) r q g h s t e = let c = same_shape (word w) (negate a) r q g h e in (cc, cc)
unique_word w (binary o a b) r q g h s t e = let c = same_shape (word w) (binary o a b) r q g h e in (cc, cc)
unique_word w (choose es) r q g h s t e = let c = same_shape (word w) (choose es) r q g h e in (cc, cc)

not_esac : (es : Tree entries) (r q : List ℕ) → Good es → codes "; esac)" ++ r ≡ codes "; " ++ printed es q → ⊥
not_esac es r q g e =
    let f : get_or (printed es q) 0 0 ≡ 101 = sym (ap (λ z. get_or z 2 0) e) in
    let s : get_or (printed es q) 1 0 ≡ 115 = sym (ap (λ z. get_or z 3 0) e) in
    (begins es q g).not_esac f s

-- one tree, and one rest
pub unique : {x : Sort} (e f : Tree x) (r q : List ℕ) → Good e → Good f → Ends e r → Ends f q → printed e r ≡ printed f q → (e ≡ f) × (r ≡ q)
unique (word w) f r q g h s t e = unique_word w f r q g h s t e
unique (next x n) (word v) r q g h s t e = let z = same_shape (next x n) (word v) r q g h e in (cc, cc)
unique (next x n) (next y m) r q g h s t e =
    let p = one_name (N.One x n) (N.One y m) (41 ∷ r) (41 ∷ q) g.1 h.1 stop_close stop_close (append_cancel_left (codes "next(") _ _ e) in
    let i = p.0 in
    let j = p.1 in
    (cc, cc)
unique (next x n) (minus m) r q g h s t e = let z = same_shape (next x n) (minus m) r q g h e in (cc, cc)
unique (next x n) (negate c) r q g h s t e = let z = same_shape (next x n) (negate c) r q g h e in (cc, cc)
unique (next x n) (binary p c d) r q g h s t e = let z = same_shape (next x n) (binary p c d) r q g h e in (cc, cc)
unique (next x n) (choose fs) r q g h s t e = let z = same_shape (next x n) (choose fs) r q g h e in (cc, cc)
unique (minus n) (word v) r q g h s t e = let z = same_shape (minus n) (word v) r q g h e in (cc, cc)
unique (minus n) (next y m) r q g h s t e = let z = same_shape (minus n) (next y m) r q g h e in (cc, cc)
unique (minus n) (minus m) r q g h s t e =
    let p = one_count n m (41 ∷ r) (41 ∷ q) (omega (arith, g.1)) (omega (arith, h.1)) not_close not_close (append_cancel_left (codes "(-") _ _ e) in
    let j = p.1 in
    (ap minus p.0, cc)
unique (minus n) (negate c) r q g h s t e = let z = same_shape (minus n) (negate c) r q g h e in (cc, cc)
unique (minus n) (binary p c d) r q g h s t e = let z = same_shape (minus n) (binary p c d) r q g h e in (cc, cc)
unique (minus n) (choose fs) r q g h s t e = let z = same_shape (minus n) (choose fs) r q g h e in (cc, cc)
unique (negate a) (word v) r q g h s t e = let z = same_shape (negate a) (word v) r q g h e in (cc, cc)
unique (negate a) (next y m) r q g h s t e = let z = same_shape (negate a) (next y m) r q g h e in (cc, cc)
unique (negate a) (minus m) r q g h s t e = let z = same_shape (negate a) (minus m) r q g h e in (cc, cc)
unique (negate a) (negate c) r q g h s t e =
    let p = unique a c (41 ∷ r) (41 ∷ q) g h (ends_by a 41 r stop_close) (ends_by c 41 q stop_close) (append_cancel_left (codes "(!") _ _ e) in
    let j = p.1 in
    (ap negate p.0, cc)
unique (negate a) (binary p c d) r q g h s t e = let z = same_shape (negate a) (binary p c d) r q g h e in (cc, cc)
unique (negate a) (choose fs) r q g h s t e = let z = same_shape (negate a) (choose fs) r q g h e in (cc, cc)
unique (binary o a b) (word v) r q g h s t e = let z = same_shape (binary o a b) (word v) r q g h e in (cc, cc)
unique (binary o a b) (next y m) r q g h s t e = let z = same_shape (binary o a b) (next y m) r q g h e in (cc, cc)
unique (binary o a b) (minus m) r q g h s t e = let z = same_shape (binary o a b) (minus m) r q g h e in (cc, cc)
unique (binary o a b) (negate c) r q g h s t e = let z = same_shape (binary o a b) (negate c) r q g h e in (cc, cc)
unique (binary o a b) (binary p c d) r q g h s t e =
    let i = unique a c _ _ g.0 h.0 (ends_operator a o (printed b (41 ∷ r))) (ends_operator c p (printed d (41 ∷ q))) (append_cancel_left (codes "(") _ _ e) in
    let j = one_operator o p _ _ i.1 in
    let k = unique b d (41 ∷ r) (41 ∷ q) g.1 h.1 (ends_by b 41 r stop_close) (ends_by d 41 q stop_close) j.1 in
    let u = i.0 in
    let v = j.0 in
    let w = k.0 in
    let z = k.1 in
    (cc, cc)
unique (binary o a b) (choose fs) r q g h s t e = let z = same_shape (binary o a b) (choose fs) r q g h e in (cc, cc)
unique (choose es) (word v) r q g h s t e = let z = same_shape (choose es) (word v) r q g h e in (cc, cc)
unique (choose es) (next y m) r q g h s t e = let z = same_shape (choose es) (next y m) r q g h e in (cc, cc)
unique (choose es) (minus m) r q g h s t e = let z = same_shape (choose es) (minus m) r q g h e in (cc, cc)
unique (choose es) (negate c) r q g h s t e = let z = same_shape (choose es) (negate c) r q g h e in (cc, cc)
unique (choose es) (binary p c d) r q g h s t e = let z = same_shape (choose es) (binary p c d) r q g h e in (cc, cc)
unique (choose es) (choose fs) r q g h s t e =
    let i = unique es fs r q g h (no_end es r) (no_end fs q) (append_cancel_left (codes "(case ") _ _ e) in
    (ap choose i.0, i.1)
unique (last t) (last u) r q g h s z e =
    let i = unique t u _ _ g h (ends_by t 59 _ stop_semicolon) (ends_by u 59 _ stop_semicolon) (append_cancel_left (codes "TRUE : ") _ _ e) in
    (ap last i.0, append_cancel_left (codes "; esac)") r q i.1)
unique (last t) (entry k u es) r q g h s z e =
    let i = unique_word (W.Truth true) k _ _ tt h.0 stop_space (ends_by k 32 _ stop_space) e in
    let j = unique t u _ _ g h.1 (ends_by t 59 _ stop_semicolon) (ends_by u 59 _ stop_semicolon) (append_cancel_left (codes " : ") _ _ i.1) in
    absurd (not_esac es r q h.2 j.1)
unique (entry k u es) (last t) r q g h s z e =
    let i = unique_word (W.Truth true) k _ _ tt g.0 stop_space (ends_by k 32 _ stop_space) (sym e) in
    let j = unique u t _ _ g.1 h (ends_by u 59 _ stop_semicolon) (ends_by t 59 _ stop_semicolon) (append_cancel_left (codes " : ") _ _ (sym i.1)) in
    absurd (not_esac es q r g.2 (sym j.1))
unique (entry k t es) (entry l u fs) r q g h s z e =
    let i = unique k l _ _ g.0 h.0 (ends_by k 32 _ stop_space) (ends_by l 32 _ stop_space) e in
    let j = unique t u _ _ g.1 h.1 (ends_by t 59 _ stop_semicolon) (ends_by u 59 _ stop_semicolon) (append_cancel_left (codes " : ") _ _ i.1) in
    let m = unique es fs r q g.2 h.2 (no_end es r) (no_end fs q) (append_cancel_left (codes "; ") _ _ j.1) in
    (let a = i.0 in let b = j.0 in let c = m.0 in cc, m.1)
