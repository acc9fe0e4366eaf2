-- What a tree of the text has at its place: its kind, its numbers, its parentheses, its names and its length; and how its parts give it.
use Rattle.std.proofs.Common.{◌≡◌, ℕ, suc, ◌+◌, ◌≤◌, max, Bool, true, false, ◌∷◌, length, ℤ, pos, negsuc, decimal, arith, lit<, lit≤, w16, SFits}
use Rattle.std.proofs.lemmas.List.{length-append}
use Rattle.std.proofs.lemmas.Fmt.{length-decimal-le}
use Rattle.expr.specs.declared.code.Joint.{Joint}
use Rattle.expr.specs.declared.code.Joint.TheVariants.{And, Or}
use Rattle.expr.specs.declared.code.Order.{Order}
use Rattle.expr.specs.declared.code.Order.TheVariants.{Eq, Ne, Lt, Le}
use Rattle.expr.specs.declared.code.Sign.{Sign}
use Rattle.expr.specs.declared.code.Sign.TheVariants.{Plus, Minus}
use Rattle.model_text.specs.declared.words.Kind.{Kind}
use Rattle.model_text.specs.declared.words.Kind.TheVariants.{Guard, Term}
use Rattle.model_text.specs.declared.words.Operator.{Operator}
use Rattle.model_text.specs.declared.words.Operator.TheVariants.{Join, Test, Sum}
use Rattle.model_text.specs.declared.words.Single.{Single}
use Rattle.model_text.specs.declared.words.Name.{Name}
use Rattle.model_text.specs.declared.words.Name.TheVariants as N
use Rattle.model_text.specs.declared.words.Word.TheVariants as W
use Rattle.model_text.specs.Words.{name_text, operator_text, GoodName}
use Rattle.model_text.specs.Trees as T
use Rattle.model_text.specs.Kinds.{kind_of, Fits}
use Rattle.model_text.specs.Scopes.{Place, AllowsNext, Nexts, Undefined, Named}
use Rattle.translation.specs.Written.{name, count, number, compared}

-- a name that K allows, of the kind, with good numbers
pub record Usable (K : Name → Type 0) (k : Kind) (x : Name) : Type 0 where
  pub known : K x
  pub kind : kind_of x ≡ k
  pub numbers : GoodName x

-- at most n parentheses are open, and s bytes are printed
pub record Fine (K : Name → Type 0) (p : Place) (n s : ℕ) (k : Kind) {x : T.Sort} (e : T.Tree x) : Type 0 where
  pub fits : Fits k e
  pub good : T.Good e
  pub few_open : T.opens e ≤ n
  pub nexts : Nexts p e
  pub named : Named K k e
  pub short : length (T.print e) ≤ s

-- lengths of words
pub count-length : (n : ℕ) → n ≤ 99999 → length (decimal n) ≤ 5
count-length n h = length-decimal-le 5 n (lit< tt) (omega arith) (omega arith)

number-length : (n : ℕ) → n ≤ 999 → length (decimal n) ≤ 3
number-length n h = length-decimal-le 3 n (lit< tt) (omega arith) (omega arith)

pub name-length : (x : Name) → GoodName x → length (name_text x) ≤ 8
name-length N.Event h = lit≤ tt
name-length N.Marked h = lit≤ tt
name-length (N.One x n) h = let a = number-length n h in omega arith
name-length (N.Two x n m) h =
    let a = number-length n h.0 in
    let b = number-length m h.1 in
    let e = length-append (decimal n) (95 ∷ decimal m) in
    omega arith

operator_length : (o : Operator) → length (operator_text o) ≤ 4
operator_length (Join And) = lit≤ tt
operator_length (Join Or) = lit≤ tt
operator_length (Test Eq) = lit≤ tt
operator_length (Test Ne) = lit≤ tt
operator_length (Test Lt) = lit≤ tt
operator_length (Test Le) = lit≤ tt
operator_length (Sum Plus) = lit≤ tt
operator_length (Sum Minus) = lit≤ tt

binary_length : (o : Operator) (a b : T.Tree T.expr) (s t : ℕ) → length (T.print a) ≤ s → length (T.print b) ≤ t → length (T.print (T.binary o a b)) ≤ s + t + 6
binary_length o a b s t h g = let l = operator_length o in simp length-append (omega arith)

module _ {K : Name → Type 0} {p : Place} where
  pub fine_more : {m n s t : ℕ} {k : Kind} {x : T.Sort} {e : T.Tree x} → Fine K p m s k e → m ≤ n → s ≤ t → Fine K p n t k e
  fine_more h l g = record { fits = h.fits; good = h.good; few_open = omega arith; nexts = h.nexts; named = h.named; short = omega arith }

  pub fine_name : {k : Kind} {x : Name} → Usable K k x → Fine K p 0 8 k (name x)
  fine_name {k = Guard} {x} h = record { fits = tt; good = h.numbers; few_open = lit≤ tt; nexts = tt; named = (h.known, h.kind); short = name-length x h.numbers }
  fine_name {k = Term} {x} h = record { fits = tt; good = h.numbers; few_open = lit≤ tt; nexts = tt; named = (h.known, h.kind); short = name-length x h.numbers }

  pub fine_count : {n : ℕ} → n ≤ 32768 → Fine K p 0 5 Term (count n)
  fine_count {n} h = record { fits = tt; good = h; few_open = lit≤ tt; nexts = tt; named = tt; short = count-length n (omega arith) }

  pub fine_truth : (b : Bool) → Fine K p 0 5 Guard (T.word (W.Truth b))
  fine_truth true = record { fits = tt; good = tt; few_open = lit≤ tt; nexts = tt; named = tt; short = lit≤ tt }
  fine_truth false = record { fits = tt; good = tt; few_open = lit≤ tt; nexts = tt; named = tt; short = lit≤ tt }

  pub fine_number : (v : ℤ) → SFits w16 v → Fine K p 1 8 Term (number v)
  fine_number (pos n) h = fine_more (fine_count (let g : n ≤ 32768 = omega (arith, h.sfits) in g)) (lit≤ tt) (lit≤ tt)
  fine_number (negsuc n) h =
      let g : suc n ≤ 32768 = omega (arith, h.sfits) in
      let l = count-length (suc n) (omega arith) in
      record { fits = tt; good = (omega arith, g); few_open = lit≤ tt; nexts = tt; named = tt; short = simp length-append (omega arith) }

  pub fine_next : (x : Single) (n : ℕ) → T.HasNext x → n ≤ 999 → AllowsNext p → K (N.One x n) → Fine K p 0 14 Term (T.next x n)
  fine_next x n h l a known =
      let g = name-length (N.One x n) l in
      record { fits = tt; good = (h, l); few_open = lit≤ tt; nexts = a; named = known; short = simp length-append (omega arith) }

  pub fine_negate : {n s : ℕ} {a : T.Tree T.expr} → Fine K p n s Guard a → Fine K p (suc n) (s + 3) Guard (T.negate a)
  fine_negate h = record { fits = h.fits; good = h.good; few_open = omega arith; nexts = h.nexts; named = h.named; short = simp length-append (omega arith) }

  pub fine_join : {m n s t : ℕ} {a b : T.Tree T.expr} (j : Joint) → Fine K p m s Guard a → Fine K p n t Guard b → Fine K p (suc (max m n)) (s + t + 6) Guard (T.binary (Join j) a b)
  fine_join {m} {n} {s} {t} {a} {b} j h g =
      record { fits = (h.fits, g.fits); good = (h.good, g.good); few_open = omega arith; nexts = (h.nexts, g.nexts); named = (h.named, g.named); short = binary_length (Join j) a b s t h.short g.short }

  pub fine_test : {m n s t : ℕ} {a b : T.Tree T.expr} (o : Order) → Fine K p m s Term a → Fine K p n t Term b → Fine K p (suc (max m n)) (s + t + 6) Guard (T.binary (Test o) a b)
  fine_test {m} {n} {s} {t} {a} {b} o h g =
      record { fits = (h.fits, g.fits); good = (h.good, g.good); few_open = omega arith; nexts = (h.nexts, g.nexts); named = (h.named, g.named); short = binary_length (Test o) a b s t h.short g.short }

  pub fine_sum : {m n s t : ℕ} {a b : T.Tree T.expr} (o : Sign) → Undefined a × Undefined b → Fine K p m s Term a → Fine K p n t Term b → Fine K p (suc (max m n)) (s + t + 6) Term (T.binary (Sum o) a b)
  fine_sum {m} {n} {s} {t} {a} {b} o u h g =
      record { fits = (h.fits, g.fits); good = (h.good, g.good); few_open = omega arith; nexts = (h.nexts, g.nexts); named = (u, (h.named, g.named)); short = binary_length (Sum o) a b s t h.short g.short }

  pub fine_choose : {n s : ℕ} {es : T.Tree T.entries} → Fine K p n s Term es → Fine K p (suc n) (s + 6) Term (T.choose es)
  fine_choose h = record { fits = h.fits; good = h.good; few_open = omega arith; nexts = h.nexts; named = h.named; short = simp length-append (omega arith) }

  pub fine_last : {n s : ℕ} {a : T.Tree T.expr} → Fine K p n s Term a → Fine K p n (s + 14) Term (T.last a)
  fine_last h = record { fits = h.fits; good = h.good; few_open = omega arith; nexts = h.nexts; named = h.named; short = simp length-append (omega arith) }

  pub fine_entry : {m n o s t u : ℕ} {g a : T.Tree T.expr} {es : T.Tree T.entries} → Fine K p m s Guard g → Fine K p n t Term a → Fine K p o u Term es → Fine K p (max m (max n o)) (s + t + u + 5) Term (T.entry g a es)
  fine_entry h i j =
      record { fits = (h.fits, i.fits, j.fits); good = (h.good, i.good, j.good); few_open = omega arith; nexts = (h.nexts, i.nexts, j.nexts); named = (h.named, i.named, j.named); short = simp length-append (omega arith) }

  pub fine_compared : {x : Name} {n : ℕ} (o : Order) → Usable K Term x → n ≤ 32768 → Fine K p 1 20 Guard (compared x o n)
  fine_compared o h l = fine_more (fine_test o (fine_name h) (fine_count l)) (lit≤ tt) (lit≤ tt)
