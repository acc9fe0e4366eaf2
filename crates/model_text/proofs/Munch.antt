-- A run of bytes of one class splits from what follows in one way; a number is such a run.
use Rattle.std.proofs.Common.{◌≡◌, ℕ, suc, ◌^◌, ◌<◌, ◌≤◌, List, [], ◌∷◌, ◌++◌, length, ℤ, pos, negsuc, decimal, refl, subst, arith}
use lib.Signed.{mag}
use Rattle.std.specs.List.{AllByRecursion as All}
use Rattle.std.specs.Fmt.{signed_decimal}
use Rattle.std.proofs.lemmas.Fmt.{decimal_by_steps, decimal_nonempty, signed_decimal_injective}
use Rattle.std.proofs.ByRecursion.{All-push, All-weaker}

-- a run of P ends before this
abbrev pub Halts : (ℕ → Type 0) → List ℕ → Type 0
Halts P [] = Unit {0}
Halts P (b ∷ r) = P b → ⊥

pub munch : (P : ℕ → Type 0) (xs ys r q : List ℕ) → All P xs → All P ys → Halts P r → Halts P q → xs ++ r ≡ ys ++ q → (xs ≡ ys) × (r ≡ q)
munch P [] [] r q a b c d e = (refl, e)
munch P [] (y ∷ ys) [] q a b c d e = (cc, cc)
munch P [] (y ∷ ys) (x ∷ r) q a b c d e = let z : y ≡ x = cc in absurd (c (subst P z b.0))
munch P (x ∷ xs) [] r [] a b c d e = (cc, cc)
munch P (x ∷ xs) [] r (y ∷ q) a b c d e = let z : x ≡ y = cc in absurd (d (subst P z a.0))
munch P (x ∷ xs) (y ∷ ys) r q a b c d e =
    let t : xs ++ r ≡ ys ++ q = cc in
    let i = munch P xs ys r q a.1 b.1 c d t in
    let z : x ≡ y = cc in
    (let w = i.0 in cc, i.1)

pub record Digit (b : ℕ) : Type 0 where
  pub low : 48 ≤ b
  pub high : b ≤ 57

pub digits_all : (n : ℕ) → n < 2 ^ 64 → All Digit (decimal n)
digits_all n h =
    decimal_by_steps (λ _ ds. All Digit ds)
    (λ k l. (record { low = omega arith; high = omega arith }, tt))
    (λ k ds l is. All-push Digit ds _ is (record { low = omega arith; high = omega arith })) n h

-- a text that begins with a digit
pub record Numeric (xs : List ℕ) : Type 0 where
  pub first : ℕ
  pub others : List ℕ
  pub is : xs ≡ first ∷ others
  pub digit : Digit first

numeric_digits : (ds : List ℕ) → All Digit ds → 0 < length ds → Numeric ds
numeric_digits [] a l = absurd (omega arith)
numeric_digits (d ∷ ds) a l = record { first = d; others = ds; is = refl; digit = a.0 }

pub numeric : (n : ℕ) → n < 2 ^ 64 → Numeric (decimal n)
numeric n h = numeric_digits (decimal n) (digits_all n h) (decimal_nonempty n h)

-- a digit or a minus sign
pub record Figure (b : ℕ) : Type 0 where
  pub low : 45 ≤ b
  pub not_dot : b ≡ 46 → ⊥
  pub high : b ≤ 57

figures_decimal : (n : ℕ) → n < 2 ^ 64 → All Figure (decimal n)
figures_decimal n h = All-weaker Digit Figure (λ b d. record { low = omega arith; not_dot = λ e. omega arith; high = d.high }) (decimal n) (digits_all n h)

figures_all : (z : ℤ) → mag z < 2 ^ 63 → All Figure (signed_decimal z)
figures_all (pos n) h = figures_decimal n (omega arith)
figures_all (negsuc n) h = (record { low = omega arith; not_dot = λ e. omega arith; high = omega arith }, figures_decimal (suc n) (omega arith))

-- a number and what follows it are told apart in one way
pub one_value : (y z : ℤ) (r q : List ℕ) → mag y < 2 ^ 63 → mag z < 2 ^ 63 → Halts Figure r → Halts Figure q → signed_decimal y ++ r ≡ signed_decimal z ++ q → (y ≡ z) × (r ≡ q)
one_value y z r q g h s t e =
    let m = munch Figure (signed_decimal y) (signed_decimal z) r q (figures_all y g) (figures_all z h) s t e in
    (signed_decimal_injective y z g h m.0, m.1)

pub one_count : (m n : ℕ) (r q : List ℕ) → m < 2 ^ 63 → n < 2 ^ 63 → Halts Figure r → Halts Figure q → decimal m ++ r ≡ decimal n ++ q → (m ≡ n) × (r ≡ q)
one_count m n r q g h s t e =
    let v = one_value (pos m) (pos n) r q g h s t e in
    (let w = v.0 in cc, v.1)
