-- The parts of an expression that stands in a list, by the code of its first byte.
use Rattle.std.proofs.Common.{Option, Some, None, IsSome, ◌≡◌, ℕ, suc, ◌+◌, ◌*◌, ◌/◌, ◌%◌, ◌<◌, ◌≤◌, Bool, true, false, List, [], ◌∷◌, ◌++◌, length, get_or, ℤ, sym, refl, ap, ◌∙◌, subst, arith, length-append, w16, SFits, to_z, of_z}
use mathlib.Core.Logic.{∥∥₁_elim, ∥∥₁_map}
use native.Mathlib.Bridge.{le_prop}
use Rattle.std.proofs.lemmas.List.{append-nil}
use Rattle.std.proofs.lemmas.Int.{to_z-of_z}
use Rattle.scan.specs.Stands.{Stands}
use Rattle.scan.proofs.Standing.{stands_front, stands_head, stands_split}
use Rattle.expr.specs.declared.code.Joint.{Joint}
use Rattle.expr.specs.declared.code.Joint.TheVariants.{And, Or}
use Rattle.expr.specs.declared.code.Order.{Order}
use Rattle.expr.specs.declared.code.Order.TheVariants.{Eq, Ne, Lt, Le}
use Rattle.expr.specs.declared.code.Sign.{Sign}
use Rattle.expr.specs.declared.code.Sign.TheVariants.{Plus, Minus}
use Rattle.expr.specs.declared.code.GuardCode.{GuardCode}
use Rattle.expr.specs.declared.code.GuardCode.TheVariants as G
use Rattle.expr.specs.declared.code.TermCode.{TermCode}
use Rattle.expr.specs.declared.code.TermCode.TheVariants as K
use Rattle.expr.specs.Codes.{truth_byte, joint_byte, order_byte, sign_byte, guard_code, term_code}
use Rattle.expr.specs.Expr.{Kind, guard, term, Expr, truth, negate, join, test, literal, variable, sum, branch, bytes_of, Leaves, value_bytes}
use Rattle.expr.specs.Coded.{Coded}
use Rattle.expr.specs.Placed.{Placed, Standing, Spans}

-- the byte code: its first byte and the rest
abbrev head : {k : Kind} → Expr k → ℕ
head (truth b) = truth_byte b
head (negate a) = 0x03
head (join j a b) = joint_byte j
head (test o a b) = order_byte o
head (literal v) = 0x10
head (variable v) = 0x11
head (sum o a b) = sign_byte o
head (branch g a b) = 0x14

abbrev tail : {k : Kind} → Expr k → List ℕ
tail (truth b) = []
tail (negate a) = bytes_of a
tail (join j a b) = bytes_of a ++ bytes_of b
tail (test o a b) = bytes_of a ++ bytes_of b
tail (literal v) = value_bytes v
tail (variable v) = v ∷ []
tail (sum o a b) = bytes_of a ++ bytes_of b
tail (branch g a b) = bytes_of g ++ (bytes_of a ++ bytes_of b)

head_tail : {k : Kind} (e : Expr k) → bytes_of e ≡ head e ∷ tail e
head_tail (truth b) = refl
head_tail (negate a) = refl
head_tail (join j a b) = refl
head_tail (test o a b) = refl
head_tail (literal v) = refl
head_tail (variable v) = refl
head_tail (sum o a b) = refl
head_tail (branch g a b) = refl

abbrev guard_head : Expr guard → Option GuardCode
guard_head (truth b) = Some (G.Truth b)
guard_head (negate a) = Some G.Not
guard_head (join j a b) = Some (G.Join j)
guard_head (test o a b) = Some (G.Test o)

abbrev term_head : Expr term → Option TermCode
term_head (literal v) = Some K.Literal
term_head (variable v) = Some K.Variable
term_head (sum o a b) = Some (K.Sum o)
term_head (branch g a b) = Some K.Case

pub truth_code : (b : Bool) → guard_code (truth_byte b) ≡ Some (G.Truth b)
truth_code true = refl
truth_code false = refl

pub joint_code : (j : Joint) → guard_code (joint_byte j) ≡ Some (G.Join j)
joint_code And = refl
joint_code Or = refl

pub order_code : (o : Order) → guard_code (order_byte o) ≡ Some (G.Test o)
order_code Eq = refl
order_code Ne = refl
order_code Lt = refl
order_code Le = refl

pub sign_code : (o : Sign) → term_code (sign_byte o) ≡ Some (K.Sum o)
sign_code Plus = refl
sign_code Minus = refl

guard_code_lem : (e : Expr guard) → guard_code (head e) ≡ guard_head e
guard_code_lem (truth b) = truth_code b
guard_code_lem (negate a) = refl
guard_code_lem (join j a b) = joint_code j
guard_code_lem (test o a b) = order_code o

term_code_lem : (e : Expr term) → term_code (head e) ≡ term_head e
term_code_lem (literal v) = refl
term_code_lem (variable v) = refl
term_code_lem (sum o a b) = sign_code o
term_code_lem (branch g a b) = refl

-- the expression that a code begins
abbrev GuardShape : Option GuardCode → Expr guard → Type 0
GuardShape (Some (G.Truth b)) e = e ≡ truth b
GuardShape (Some G.Not) e = (a : Expr guard) × (e ≡ negate a)
GuardShape (Some (G.Join j)) e = (a b : Expr guard) × (e ≡ join j a b)
GuardShape (Some (G.Test o)) e = (a b : Expr term) × (e ≡ test o a b)
GuardShape None e = ⊥

abbrev TermShape : Option TermCode → Expr term → Type 0
TermShape (Some K.Literal) e = (v : ℤ) × (e ≡ literal v)
TermShape (Some K.Variable) e = (v : ℕ) × (e ≡ variable v)
TermShape (Some (K.Sum o)) e = (a b : Expr term) × (e ≡ sum o a b)
TermShape (Some K.Case) e = (g : Expr guard) × (a : Expr term) × (b : Expr term) × (e ≡ branch g a b)
TermShape None e = ⊥

guard_shape : (e : Expr guard) → GuardShape (guard_head e) e
guard_shape (truth b) = refl
guard_shape (negate a) = (a, refl)
guard_shape (join j a b) = (a, b, refl)
guard_shape (test o a b) = (a, b, refl)

term_shape : (e : Expr term) → TermShape (term_head e) e
term_shape (literal v) = (v, refl)
term_shape (variable v) = (v, refl)
term_shape (sum o a b) = (a, b, refl)
term_shape (branch g a b) = (g, a, b, refl)

module _ {k : Kind} (s : List ℕ) (at : ℕ) (e : Expr k) (p : Placed s at e) where
  first_byte : (at < length s) × (get_or s at 0 ≡ head e) × Stands s (at + 1) (tail e)
  first_byte = stands_head s at (head e) (tail e) (subst (λ xs. Stands s at xs) (head_tail e) p.stands)

pub standing : (k : Kind) (s : List ℕ) (at : ℕ) → ∥ ((e : Expr k) × Placed s at e) ∥₁ → Standing k s at
standing k s at some = record { some = some; within = ∥∥₁_elim some le_prop (λ w. (first_byte s at w.0 w.1).0) }

module _ (s : List ℕ) (at : ℕ) where
  guard_at_lem : (code : Option GuardCode) → code ≡ guard_code (get_or s at 0) → (e : Expr guard) → Placed s at e → GuardShape code e
  guard_at_lem code is e p =
      let same : guard_head e ≡ code = sym (is ∙ ap guard_code (first_byte s at e p).1 ∙ guard_code_lem e) in
      subst (λ c. GuardShape c e) same (guard_shape e)

  term_at_lem : (code : Option TermCode) → code ≡ term_code (get_or s at 0) → (e : Expr term) → Placed s at e → TermShape code e
  term_at_lem code is e p =
      let same : term_head e ≡ code = sym (is ∙ ap term_code (first_byte s at e p).1 ∙ term_code_lem e) in
      subst (λ c. TermShape c e) same (term_shape e)

  pub some_guard : (o : Option GuardCode) → o ≡ guard_code (get_or s at 0) → Standing guard s at → IsSome o
  some_guard None is h = absurd (∥∥₁_elim h.some (λ x y. absurd x) (λ w. guard_at_lem None is w.0 w.1))
  some_guard (Some code) is h = refl

  pub some_term : (o : Option TermCode) → o ≡ term_code (get_or s at 0) → Standing term s at → IsSome o
  some_term None is h = absurd (∥∥₁_elim h.some (λ x y. absurd x) (λ w. term_at_lem None is w.0 w.1))
  some_term (Some code) is h = refl

abbrev Fine : {k : Kind} → Expr k → Type 0
Fine e = Leaves (λ v. v < 256) (SFits w16) e

-- what stands there has two parts of one kind
pub record Two {j k : Kind} (make : Expr j → Expr j → Expr k) (s : List ℕ) (at : ℕ) : Type 0 where
  lead : ℕ
  bytes : (a b : Expr j) → bytes_of (make a b) ≡ lead ∷ (bytes_of a ++ bytes_of b)
  fine : (a b : Expr j) → Fine (make a b) → Fine a × Fine b
  shape : (e : Expr k) → Placed s at e → (a b : Expr j) × (e ≡ make a b)

pub join_two : (s : List ℕ) (at : ℕ) (j : Joint) → Some (G.Join j) ≡ guard_code (get_or s at 0) → Two (join j) s at
join_two s at j is = record { lead = joint_byte j; bytes = λ a b. refl; fine = λ a b h. h; shape = guard_at_lem s at (Some (G.Join j)) is }

pub test_two : (s : List ℕ) (at : ℕ) (o : Order) → Some (G.Test o) ≡ guard_code (get_or s at 0) → Two (test o) s at
test_two s at o is = record { lead = order_byte o; bytes = λ a b. refl; fine = λ a b h. h; shape = guard_at_lem s at (Some (G.Test o)) is }

pub sum_two : (s : List ℕ) (at : ℕ) (o : Sign) → Some (K.Sum o) ≡ term_code (get_or s at 0) → Two (sum o) s at
sum_two s at o is = record { lead = sign_byte o; bytes = λ a b. refl; fine = λ a b h. h; shape = term_at_lem s at (Some (K.Sum o)) is }

-- parts one after another
module _ {i j : Kind} (s : List ℕ) (at : ℕ) (a : Expr i) (b : Expr j) where
  apart : Stands s at (bytes_of a ++ bytes_of b) → Fine a → Fine b → Placed s at a × Placed s (at + length (bytes_of a)) b
  apart h fa fb =
      let parts = stands_split s at (bytes_of a) (bytes_of b) h in
      (record { stands = parts.0; leaves = fa }, record { stands = parts.1; leaves = fb })

module _ {j k : Kind} (make : Expr j → Expr j → Expr k) (s : List ℕ) (at : ℕ) (t : Two make s at) where
  two_placed : (a b : Expr j) → Placed s at (make a b) → Placed s (at + 1) a × Placed s (at + 1 + length (bytes_of a)) b
  two_placed a b p =
      let rest = (stands_head s at t.lead (bytes_of a ++ bytes_of b) (subst (λ xs. Stands s at xs) (t.bytes a b) p.stands)).2 in
      let fine = t.fine a b p.leaves in
      apart s (at + 1) a b rest fine.0 fine.1

  two_in : (e : Expr k) → Placed s at e → (a b : Expr j) × (e ≡ make a b) × Placed s (at + 1) a × Placed s (at + 1 + length (bytes_of a)) b
  two_in e p =
      let x = t.shape e p in
      let q = two_placed x.0 x.1 (subst (λ y. Placed s at y) x.2 p) in
      (x.0, x.1, x.2, q.0, q.1)

  pub two_first : Standing k s at → Standing j s (at + 1)
  two_first h = standing _ s _ (∥∥₁_map h.some (λ w. let x = two_in w.0 w.1 in (x.0, x.3)))

  module _ (m : ℕ) (P : Expr j → Type 0) (one : Spans j s (at + 1) m P) where
    then : (a b : Expr j) → Placed s (at + 1) a → Placed s (at + 1 + length (bytes_of a)) b → Placed s m b
    then a b p q = subst (λ n. Placed s n b) (sym (one.ends a p)) q

    pub two_second : Standing k s at → Standing j s m
    two_second h = standing _ s _ (∥∥₁_map h.some (λ w. let x = two_in w.0 w.1 in (x.1, then x.0 x.1 x.3 x.4)))

    pub two_spans : (end : ℕ) (Q : Expr j → Type 0) (R : Expr k → Type 0) → Spans j s m end Q → ((a b : Expr j) → P a → Q b → R (make a b)) → Spans k s at end R
    two_spans end Q R two gives = record {
      holds = λ e p.
          let x = two_in e p in
          let b = then x.0 x.1 x.3 x.4 in
          subst R (sym x.2) (gives x.0 x.1 (one.holds x.0 x.3) (two.holds x.1 b));
      ends = λ e p.
          let x = two_in e p in
          let b = then x.0 x.1 x.3 x.4 in
          let long : length (bytes_of e) ≡ suc (length (bytes_of x.0) + length (bytes_of x.1)) = ap (λ y. length (bytes_of y)) x.2 ∙ ap length (t.bytes x.0 x.1) ∙ ap suc (length-append (bytes_of x.0) (bytes_of x.1)) in
          omega (arith, one.ends x.0 x.3, two.ends x.1 b);
      past = omega (arith, one.past, two.past);
      within = two.within;
    }

-- a truth value
pub truth_spans : (s : List ℕ) (at : ℕ) (b : Bool) (R : Expr guard → Type 0) → Some (G.Truth b) ≡ guard_code (get_or s at 0) → Standing guard s at → R (truth b) → Spans guard s at (at + 1) R
truth_spans s at b R is h r = record {
  holds = λ e p. subst R (sym (guard_at_lem s at (Some (G.Truth b)) is e p)) r;
  ends = λ e p. let long : length (bytes_of e) ≡ 1 = ap (λ y. length (bytes_of y)) (guard_at_lem s at (Some (G.Truth b)) is e p) in omega arith;
  past = omega arith;
  within = omega (arith, h.within);
}

-- a negation
module _ (s : List ℕ) (at : ℕ) (is : Some G.Not ≡ guard_code (get_or s at 0)) where
  negated : (e : Expr guard) → Placed s at e → (a : Expr guard) × (e ≡ negate a) × Placed s (at + 1) a
  negated e p =
      let x = guard_at_lem s at (Some G.Not) is e p in
      let q = subst (λ y. Placed s at y) x.1 p in
      (x.0, x.1, record { stands = (first_byte s at (negate x.0) q).2; leaves = q.leaves })

  pub not_first : Standing guard s at → Standing guard s (at + 1)
  not_first h = standing _ s _ (∥∥₁_map h.some (λ w. let x = negated w.0 w.1 in (x.0, x.2)))

  pub not_spans : (end : ℕ) (P R : Expr guard → Type 0) → Spans guard s (at + 1) end P → ((a : Expr guard) → P a → R (negate a)) → Spans guard s at end R
  not_spans end P R one gives = record {
    holds = λ e p. let x = negated e p in subst R (sym x.1) (gives x.0 (one.holds x.0 x.2));
    ends = λ e p.
        let x = negated e p in
        let long : length (bytes_of e) ≡ suc (length (bytes_of x.0)) = ap (λ y. length (bytes_of y)) x.1 in
        omega (arith, one.ends x.0 x.2);
    past = omega (arith, one.past);
    within = one.within;
  }

-- a literal
module _ (s : List ℕ) (at : ℕ) (is : Some K.Literal ≡ term_code (get_or s at 0)) where
  abbrev read : ℤ
  read = to_z w16 (get_or s (at + 1) 0 * 256 + get_or s (at + 1 + 1) 0)

  value_bytes_lem : (v : ℤ) → Placed s at (literal v) → (at + 2 < length s) × (v ≡ read)
  value_bytes_lem v p =
      let n = of_z w16 v in
      let high = stands_head s (at + 1) (n / 256) (n % 256 ∷ []) (first_byte s at (literal v) p).2 in
      let low = stands_head s (at + 1 + 1) (n % 256) [] high.2 in
      let whole : n / 256 * 256 + n % 256 ≡ n = omega arith in
      (omega (arith, low.0), sym (rw (high.1, low.1, whole) (to_z-of_z w16 v p.leaves)))

  literal_in : (e : Expr term) → Placed s at e → (at + 2 < length s) × (e ≡ literal read)
  literal_in e p =
      let x = term_at_lem s at (Some K.Literal) is e p in
      let q = value_bytes_lem x.0 (subst (λ y. Placed s at y) x.1 p) in
      (q.0, x.1 ∙ ap literal q.1)

  pub literal_within : Standing term s at → at + 2 < length s
  literal_within h = ∥∥₁_elim h.some le_prop (λ w. (literal_in w.0 w.1).0)

  pub literal_spans : (R : Expr term → Type 0) → Standing term s at → R (literal read) → Spans term s at (at + 3) R
  literal_spans R h r = record {
    holds = λ e p. subst R (sym (literal_in e p).1) r;
    ends = λ e p. let long : length (bytes_of e) ≡ 3 = ap (λ y. length (bytes_of y)) (literal_in e p).1 in omega arith;
    past = omega arith;
    within = omega (arith, literal_within h);
  }

-- a variable
module _ (s : List ℕ) (at : ℕ) (is : Some K.Variable ≡ term_code (get_or s at 0)) where
  variable_in : (e : Expr term) → Placed s at e → (at + 1 < length s) × (e ≡ variable (get_or s (at + 1) 0))
  variable_in e p =
      let x = term_at_lem s at (Some K.Variable) is e p in
      let q = first_byte s at (variable x.0) (subst (λ y. Placed s at y) x.1 p) in
      let number = stands_head s (at + 1) x.0 [] q.2 in
      (number.0, x.1 ∙ ap variable (sym number.1))

  pub variable_within : Standing term s at → at + 1 < length s
  variable_within h = ∥∥₁_elim h.some le_prop (λ w. (variable_in w.0 w.1).0)

  pub variable_spans : (R : Expr term → Type 0) → Standing term s at → R (variable (get_or s (at + 1) 0)) → Spans term s at (at + 2) R
  variable_spans R h r = record {
    holds = λ e p. subst R (sym (variable_in e p).1) r;
    ends = λ e p. let long : length (bytes_of e) ≡ 2 = ap (λ y. length (bytes_of y)) (variable_in e p).1 in omega arith;
    past = omega arith;
    within = omega (arith, variable_within h);
  }

-- a case: a guard and two terms
record Branch (s : List ℕ) (at : ℕ) (e : Expr term) : Type 0 where
  if : Expr guard
  yes : Expr term
  other : Expr term
  is : e ≡ branch if yes other
  first : Placed s (at + 1) if
  second : Placed s (at + 1 + length (bytes_of if)) yes
  third : Placed s (at + 1 + length (bytes_of if) + length (bytes_of yes)) other

branch_placed : (s : List ℕ) (at : ℕ) (g : Expr guard) (a b : Expr term) → Placed s at (branch g a b) → Branch s at (branch g a b)
branch_placed s at g a b p =
    let rest = (first_byte s at (branch g a b) p).2 in
    let parts = stands_split s (at + 1) (bytes_of g) (bytes_of a ++ bytes_of b) rest in
    let terms = apart s (at + 1 + length (bytes_of g)) a b parts.1 p.leaves.1 p.leaves.2 in
    record { if = g; yes = a; other = b; is = refl; first = record { stands = parts.0; leaves = p.leaves.0 }; second = terms.0; third = terms.1 }

module _ (s : List ℕ) (at : ℕ) (code : Some K.Case ≡ term_code (get_or s at 0)) where
  branch_in : (e : Expr term) → Placed s at e → Branch s at e
  branch_in e p =
      let x = term_at_lem s at (Some K.Case) code e p in
      let q = branch_placed s at x.0 x.1 x.2 (subst (λ y. Placed s at y) x.3 p) in
      subst (λ y. Branch s at y) (sym x.3) q

  pub case_first : Standing term s at → Standing guard s (at + 1)
  case_first h = standing _ s _ (∥∥₁_map h.some (λ w. let x = branch_in w.0 w.1 in (x.if, x.first)))

  module _ (l : ℕ) (P : Expr guard → Type 0) (one : Spans guard s (at + 1) l P) where
    yes_placed : (e : Expr term) (x : Branch s at e) → Placed s l x.yes
    yes_placed e x = subst (λ n. Placed s n x.yes) (sym (one.ends x.if x.first)) x.second

    pub case_second : Standing term s at → Standing term s l
    case_second h = standing _ s _ (∥∥₁_map h.some (λ w. let x = branch_in w.0 w.1 in (x.yes, yes_placed w.0 x)))

    module _ (m : ℕ) (Q : Expr term → Type 0) (two : Spans term s l m Q) where
      other_placed : (e : Expr term) (x : Branch s at e) → Placed s m x.other
      other_placed e x =
          let i = one.ends x.if x.first in
          let j = two.ends x.yes (yes_placed e x) in
          subst (λ n. Placed s n x.other) (omega arith) x.third

      pub case_third : Standing term s at → Standing term s m
      case_third h = standing _ s _ (∥∥₁_map h.some (λ w. let x = branch_in w.0 w.1 in (x.other, other_placed w.0 x)))

      pub case_spans : (end : ℕ) (O R : Expr term → Type 0) → Spans term s m end O → ((g : Expr guard) (a b : Expr term) → P g → Q a → O b → R (branch g a b)) → Spans term s at end R
      case_spans end O R three gives = record {
        holds = λ e p.
            let x = branch_in e p in
            subst R (sym x.is) (gives x.if x.yes x.other (one.holds x.if x.first) (two.holds x.yes (yes_placed e x)) (three.holds x.other (other_placed e x)));
        ends = λ e p.
            let x = branch_in e p in
            let long = ap (λ y. length (bytes_of y)) x.is in
            let parts = length-append (bytes_of x.if) (bytes_of x.yes ++ bytes_of x.other) in
            let terms = length-append (bytes_of x.yes) (bytes_of x.other) in
            omega (arith, one.ends x.if x.first, two.ends x.yes (yes_placed e x), three.ends x.other (other_placed e x));
        past = omega (arith, one.past, two.past, three.past);
        within = three.within;
      }

-- a whole list that is the code of an expression
pub coded_placed : {k : Kind} (s : List ℕ) (e : Expr k) → Coded s e → Placed s 0 e
coded_placed s e h = record {
  stands = stands_front s 0 (bytes_of e) [] (sym (append-nil (bytes_of e) ∙ h.bytes));
  leaves = h.formed.leaves;
}

pub coded_standing : (k : Kind) (s : List ℕ) → ∥ ((e : Expr k) × Coded s e) ∥₁ → record { long : length s ≤ 255; standing : Standing k s 0 }
coded_standing k s some = record {
  long = ∥∥₁_elim some le_prop (λ w. let e = ap length w.1.bytes in omega (arith, w.1.formed.short));
  standing = standing k s 0 (∥∥₁_map some (λ w. (w.0, coded_placed s w.0 w.1)));
}
