-- Words are spelled apart, and their end is seen.
use Rattle.std.proofs.Common.{◌≡◌, ℕ, ◌^◌, ◌<◌, ◌≤◌, Bool, true, false, cond, eqb, ltb, List, [], ◌∷◌, ◌++◌, get_or, drop, decimal, sym, refl, ap, ◌∙◌, inl, inr, append_assoc, arith}
use Rattle.std.specs.List.{AllByRecursion as All}
use Rattle.std.specs.Str.{all_ascii_digits}
use Rattle.std.specs.Str.Parse.{digits_value}
use Rattle.std.proofs.lemmas.Fmt.{digits_value-decimal}
use Rattle.std.proofs.ByRecursion.{All-append, All-weaker}
use Rattle.std.proofs.lemmas.Str.Parse.{IsNumeralModel, numerals_by_value, tells_all_ascii_digits}
use Rattle.std.proofs.lemmas.Bool.{lt-ltb, ne_eqb}
use Rattle.expr.specs.Text.{truth_text}
use Rattle.model_text.specs.declared.words.Single.{Single}
use Rattle.model_text.specs.declared.words.Single.TheVariants.{Choice, Location, Variable, SettledValue, Permission, PlantsOpen, LocationMarked}
use Rattle.model_text.specs.declared.words.Double.{Double}
use Rattle.model_text.specs.declared.words.Double.TheVariants.{Transition, WishStatus, WishValue, JoinedStatus, JoinedValue, Open}
use Rattle.model_text.specs.declared.words.Name.{Name}
use Rattle.model_text.specs.declared.words.Name.TheVariants as N
use Rattle.model_text.specs.declared.words.Word.{Word}
use Rattle.model_text.specs.declared.words.Word.TheVariants as W
use Rattle.model_text.specs.Words.{single, double, name_text, spelled, GoodName, GoodWord, Stops}
use Rattle.model_text.proofs.Munch.{Halts, munch, Digit, digits_all, numeric}

-- what a word's first byte says of it
data Form : Type 0 where
  truth : Bool → Form
  number event marked : Form
  one : Single → Form
  two : Double → Form

abbrev form_at : ℕ → Form
form_at b =
    cond (ltb b 58) number
    (cond (eqb b 84) (truth true)
    (cond (eqb b 70) (truth false)
    (cond (eqb b 101) event
    (cond (eqb b 109) marked
    (cond (eqb b 99) (one Choice)
    (cond (eqb b 115) (one Location)
    (cond (eqb b 117) (one Variable)
    (cond (eqb b 122) (one SettledValue)
    (cond (eqb b 121) (one Permission)
    (cond (eqb b 112) (one PlantsOpen)
    (cond (eqb b 108) (one LocationMarked)
    (cond (eqb b 116) (two Transition)
    (cond (eqb b 119) (two WishStatus)
    (cond (eqb b 100) (two WishValue)
    (cond (eqb b 97) (two JoinedStatus)
    (cond (eqb b 98) (two JoinedValue) (two Open)))))))))))))))))

single-form : (x : Single) → form_at (single x) ≡ one x
single-form Choice = refl
single-form Location = refl
single-form Variable = refl
single-form SettledValue = refl
single-form Permission = refl
single-form PlantsOpen = refl
single-form LocationMarked = refl

double-form : (x : Double) → form_at (double x) ≡ two x
double-form Transition = refl
double-form WishStatus = refl
double-form WishValue = refl
double-form JoinedStatus = refl
double-form JoinedValue = refl
double-form Open = refl

own : IsNumeralModel (λ ds. all_ascii_digits ds ≡ true) (digits_value 10)
own = numerals_by_value _ tells_all_ascii_digits

-- the parts of a text at its first underscore
abbrev before : List ℕ → List ℕ
before [] = []
before (b ∷ r) = cond (eqb b 95) [] (b ∷ before r)

abbrev after : List ℕ → List ℕ
after [] = []
after (b ∷ r) = cond (eqb b 95) r (after r)

before_is : (ds r : List ℕ) → All Digit ds → before (ds ++ (95 ∷ r)) ≡ ds
before_is [] r a = refl
before_is (d ∷ ds) r a = let f = a.0 in rw (ne_eqb d 95 (λ e. omega arith)) (ap (λ z. d ∷ z) (before_is ds r a.1))

after_is : (ds r : List ℕ) → All Digit ds → after (ds ++ (95 ∷ r)) ≡ r
after_is [] r a = refl
after_is (d ∷ ds) r a = let f = a.0 in rw (ne_eqb d 95 (λ e. omega arith)) (after_is ds r a.1)

-- the word that is spelled so
abbrev word_by : Form → List ℕ → Word
word_by (truth b) xs = W.Truth b
word_by number xs = W.Number (digits_value 10 xs)
word_by event xs = W.Name N.Event
word_by marked xs = W.Name N.Marked
word_by (one x) xs = W.Name (N.One x (digits_value 10 (drop 1 xs)))
word_by (two x) xs = W.Name (N.Two x (digits_value 10 (before (drop 1 xs))) (digits_value 10 (after (drop 1 xs))))

abbrev word_of : List ℕ → Word
word_of xs = word_by (form_at (get_or xs 0 0)) xs

name_back : (x : Name) → GoodName x → word_of (name_text x) ≡ W.Name x
name_back N.Event g = refl
name_back N.Marked g = refl
name_back (N.One x n) g = rw (single-form x, digits_value-decimal own n (omega arith))
name_back (N.Two x n m) g =
    let a = before_is (decimal n) (decimal m) (digits_all n (omega (arith, g.0))) in
    let b = after_is (decimal n) (decimal m) (digits_all n (omega (arith, g.0))) in
    let c = digits_value-decimal own n (omega (arith, g.0)) in
    let d = digits_value-decimal own m (omega (arith, g.1)) in
    rw (double-form x, a, b, c, d)

truth_back : (b : Bool) → word_of (truth_text b) ≡ W.Truth b
truth_back true = refl
truth_back false = refl

word_back : (w : Word) → GoodWord w → word_of (spelled w) ≡ w
word_back (W.Truth b) g = truth_back b
word_back (W.Number n) g =
    let i = numeric n (omega arith) in
    let d = i.digit in
    let f : get_or (decimal n) 0 0 ≡ i.first = ap (λ z. get_or z 0 0) i.is in
    rw (f, lt-ltb i.first 58 (omega arith), digits_value-decimal own n (omega arith))
word_back (W.Name x) g = name_back x g

-- no two words are spelled alike
same_word : (w v : Word) → GoodWord w → GoodWord v → spelled w ≡ spelled v → w ≡ v
same_word w v g h e = sym (word_back w g) ∙ ap word_of e ∙ word_back v h

-- a byte inside a word
record Inner (b : ℕ) : Type 0 where
  low : 48 ≤ b
  not_semicolon : b ≡ 59 → ⊥

halts : (rest : List ℕ) → Stops rest → Halts Inner rest
halts [] h = tt
halts (b ∷ rest) h = λ i. elim h.stop [
  | inl a ↦ omega (arith, i.low)
  | inr o ↦ elim o [ inl a ↦ omega (arith, i.low) | inr a ↦ i.not_semicolon a ]
]

inner : (b : ℕ) → 60 ≤ b → Inner b
inner b h = record { low = omega arith; not_semicolon = λ e. omega arith }

inner_number : (n : ℕ) → n < 2 ^ 64 → All Inner (decimal n)
inner_number n h = All-weaker Digit Inner (λ b d. record { low = d.low; not_semicolon = λ e. omega (arith, d.high) }) (decimal n) (digits_all n h)

single-low : (x : Single) → 97 ≤ single x
single-low Choice = omega arith
single-low Location = omega arith
single-low Variable = omega arith
single-low SettledValue = omega arith
single-low Permission = omega arith
single-low PlantsOpen = omega arith
single-low LocationMarked = omega arith

double-low : (x : Double) → 97 ≤ double x
double-low Transition = omega arith
double-low WishStatus = omega arith
double-low WishValue = omega arith
double-low JoinedStatus = omega arith
double-low JoinedValue = omega arith
double-low Open = omega arith

-- a name begins with a small letter
pub name-low : (x : Name) (r : List ℕ) → 97 ≤ get_or (name_text x ++ r) 0 0
name-low N.Event r = omega arith
name-low N.Marked r = omega arith
name-low (N.One x n) r = single-low x
name-low (N.Two x n m) r = double-low x

inner_name : (x : Name) → GoodName x → All Inner (name_text x)
inner_name N.Event g = (inner 101 (omega arith), (inner 118 (omega arith), tt))
inner_name N.Marked g = (inner 109 (omega arith), (inner 107 (omega arith), tt))
inner_name (N.One x n) g = (inner (single x) (omega (arith, single-low x)), inner_number n (omega arith))
inner_name (N.Two x n m) g = (
  inner (double x) (omega (arith, double-low x)),
  All-append Inner (decimal n) (95 ∷ decimal m) (inner_number n (omega (arith, g.0))) (inner 95 (omega arith), inner_number m (omega (arith, g.1))),
)

inner_truth : (b : Bool) → All Inner (truth_text b)
inner_truth true = (inner 84 (omega arith), (inner 82 (omega arith), (inner 85 (omega arith), (inner 69 (omega arith), tt))))
inner_truth false = (inner 70 (omega arith), (inner 65 (omega arith), (inner 76 (omega arith), (inner 83 (omega arith), (inner 69 (omega arith), tt)))))

inner_word : (w : Word) → GoodWord w → All Inner (spelled w)
inner_word (W.Truth b) g = inner_truth b
inner_word (W.Number n) g = inner_number n (omega arith)
inner_word (W.Name x) g = inner_name x g

-- a word and what follows it are told apart in one way
pub one_word : (w v : Word) (r q : List ℕ) → GoodWord w → GoodWord v → Stops r → Stops q → spelled w ++ r ≡ spelled v ++ q → (w ≡ v) × (r ≡ q)
one_word w v r q g h s t e =
    let m = munch Inner (spelled w) (spelled v) r q (inner_word w g) (inner_word v h) (halts r s) (halts q t) e in
    (same_word w v g h m.0, m.1)

pub one_name : (x y : Name) (r q : List ℕ) → GoodName x → GoodName y → Stops r → Stops q → name_text x ++ r ≡ name_text y ++ q → (x ≡ y) × (r ≡ q)
one_name x y r q g h s t e =
    let m = one_word (W.Name x) (W.Name y) r q g h s t e in
    (let w = m.0 in cc, m.1)

-- the first two bytes of a word and what follows it
pub record Initial (b d : ℕ) : Type 0 where
  pub low : 48 ≤ b
  pub not_E : b ≡ 69 → ⊥
  pub not_next : b ≡ 110 → d ≡ 101 → ⊥
  pub not_case : b ≡ 99 → d ≡ 97 → ⊥
  pub not_esac : b ≡ 101 → d ≡ 115 → ⊥

-- neither `n` nor `c`
initial_by : (b d : ℕ) → 48 ≤ b → (b ≡ 69 → ⊥) → (b ≡ 110 → ⊥) → (b ≡ 99 → ⊥) → (b ≡ 101 → d ≡ 115 → ⊥) → Initial b d
initial_by b d l n x c s = record { low = l; not_E = n; not_next = λ e _. x e; not_case = λ e _. c e; not_esac = s }

initial_numbered : (b n : ℕ) (r : List ℕ) → 97 ≤ b → n < 2 ^ 64 → Initial b (get_or (decimal n ++ r) 0 0)
initial_numbered b n r l h =
    let i = numeric n h in
    let d = i.digit in
    let f : get_or (decimal n ++ r) 0 0 ≡ i.first = ap (λ z. get_or (z ++ r) 0 0) i.is in
    record { low = omega arith; not_E = λ e. omega arith; not_next = λ e o. omega arith; not_case = λ e o. omega arith; not_esac = λ e o. omega arith }

initial_name : (x : Name) → GoodName x → (r : List ℕ) → Initial (get_or (name_text x ++ r) 0 0) (get_or (name_text x ++ r) 1 0)
initial_name N.Event g r = initial_by 101 118 (omega arith) (λ e. omega arith) (λ e. omega arith) (λ e. omega arith) (λ e f. omega arith)
initial_name N.Marked g r = initial_by 109 107 (omega arith) (λ e. omega arith) (λ e. omega arith) (λ e. omega arith) (λ e f. omega arith)
initial_name (N.One x n) g r = initial_numbered (single x) n r (single-low x) (omega arith)
initial_name (N.Two x n m) g r = rw append_assoc (initial_numbered (double x) n ((95 ∷ decimal m) ++ r) (double-low x) (omega (arith, g.0)))

pub initial : (w : Word) → GoodWord w → (r : List ℕ) → Initial (get_or (spelled w ++ r) 0 0) (get_or (spelled w ++ r) 1 0)
initial (W.Truth true) g r = initial_by 84 82 (omega arith) (λ e. omega arith) (λ e. omega arith) (λ e. omega arith) (λ e f. omega arith)
initial (W.Truth false) g r = initial_by 70 65 (omega arith) (λ e. omega arith) (λ e. omega arith) (λ e. omega arith) (λ e f. omega arith)
initial (W.Number n) g r =
    let i = numeric n (omega arith) in
    let d = i.digit in
    let f : get_or (decimal n ++ r) 0 0 ≡ i.first = ap (λ z. get_or (z ++ r) 0 0) i.is in
    rw f (initial_by i.first _ (omega arith) (λ e. omega arith) (λ e. omega arith) (λ e. omega arith) (λ e o. omega arith))
initial (W.Name x) g r = initial_name x g r
