-- A number from the run of digits at the head of a text.
use Rattle.std.proofs.Common.{◌≡◌, ℕ, ◌+◌, ◌^◌, ◌<◌, ◌≤◌, List, ◌-◌, ◌*◌, [], ◌∷◌, ◌++◌, length, get_or, take, drop, Option, Some, None, MatchOption, unwrap_or, decimal, sym, ap, ◌∙◌, inl, inr, arith, length-append, length-take}
use Rattle.std.specs.Char.{digit_value}
use Rattle.std.specs.Str.Parse.{digits_value}
use Rattle.std.specs.List.{All, AllByRecursion, AllWithin, HoldsAt}
use Rattle.std.proofs.lemmas.List.{take-append-drop, drop_more, drop_all, get_or-take}
use Rattle.std.proofs.lemmas.List.Elements.{All-nil, All-cons, All-head, All-tail, All-get_or, All-take, All-from_get_or, recursion_from_All}
use Rattle.std.proofs.ByRecursion.{All-weaker as weaker}
use Rattle.std.proofs.lemmas.Bool.{cases_eq, le-ltb, lt-ltb}
use Rattle.std.proofs.lemmas.Int.Digits.{digits_value_more}
use Rattle.std.proofs.lemmas.Str.Parse.{IsNumeralModel, numerals_by_value, digits_value_short}
use Rattle.std.proofs.lemmas.Fmt.{decimal-digits_value, decimal_injective, digits_value-decimal, decimal_nonempty, decimal_digit, first_decimal, length-decimal-le}
use Rattle.model_text.proofs.Munch.{Halts, munch, digits_all}
use Rattle.words.specs.Digits.{Digit, NoDigit, Run}
use Rattle.words.specs.Forms.{numbers}
use Rattle.words.specs.Readings.{Found, Nothing}

pub own : IsNumeralModel (λ ds. All Digit ds) (digits_value 10)
own = numerals_by_value (λ ds. All Digit ds) (record {
  empty = All-nil Digit;
  parts = λ c cs h. let d = All-head Digit c cs h in ((d.low, d.high), All-tail Digit c cs h);
  more = λ c cs i h. All-cons Digit c cs (record { low = i.0; high = i.1 }) h;
})

digit_is : (b : ℕ) → Digit b → digit_value b ≡ b - 48
digit_is b d = rw (le-ltb b 48 d.low, lt-ltb b 58 (omega (arith, d.high)))

-- a number that is read digit by digit
module _ (ds : List ℕ) (all : All Digit ds) (i v : ℕ) (within : i < length ds) (so_far : v ≡ digits_value 10 (take i ds)) where
  pub one_more : v * 10 + (get_or ds i 0 - 48) ≡ digits_value 10 (take (i + 1) ds)
  one_more =
      ap (λ n. n * 10 + (get_or ds i 0 - 48)) so_far
      ∙ ap (λ d. digits_value 10 (take i ds) * 10 + d) (sym (digit_is (get_or ds i 0) (All-get_or Digit ds i 0 within all)))
      ∙ sym (digits_value_more 10 ds i within)

-- ten digits or fewer spell less than 10 ^ 10
pub front_small : (ds : List ℕ) → All Digit ds → (i : ℕ) → i ≤ 10 → digits_value 10 (take i ds) < 10 ^ 10
front_small ds all i few = digits_value_short own (take i ds) 10 (All-take Digit i ds all) (simp length-take (omega arith))

halts : (rest : List ℕ) → NoDigit rest → Halts Digit rest
halts [] h = tt
halts (b ∷ rest) h = h

all_digits : (n : ℕ) → n < 2 ^ 64 → AllByRecursion Digit (decimal n)
all_digits n h = weaker _ Digit (λ b d. record { low = d.low; high = d.high }) (decimal n) (digits_all n h)

-- digits and what follows them are told apart in one way
split : (xs ys r q : List ℕ) → AllByRecursion Digit xs → AllByRecursion Digit ys → NoDigit r → NoDigit q → xs ++ r ≡ ys ++ q → (xs ≡ ys) × (r ≡ q)
split xs ys r q a b c d e = munch Digit xs ys r q a b (halts r c) (halts q d) e

pub one_number : (m n : ℕ) (r q : List ℕ) → m < 2 ^ 64 → n < 2 ^ 64 → NoDigit r → NoDigit q → decimal m ++ r ≡ decimal n ++ q → (m ≡ n) × (r ≡ q)
one_number m n r q g h s t e =
    let p = split (decimal m) (decimal n) r q (all_digits m g) (all_digits n h) s t e in
    (decimal_injective m n g h p.0, p.1)

module _ (s digits rest : List ℕ) (run : Run s digits rest) where
  -- a number that stands there is the run
  matches : (n : ℕ) (r : List ℕ) → n < 2 ^ 64 → NoDigit r → s ≡ decimal n ++ r → digits ≡ decimal n
  matches n r small follow t = (split digits (decimal n) rest r (recursion_from_All Digit digits run.all) (all_digits n small) run.ends follow (sym run.splits ∙ t)).0

  module _ (max : ℕ) (small : max < 2 ^ 32) where
    pub zero_led : get_or digits 0 0 ≡ 48 → 1 < length digits → Nothing (numbers max) s
    zero_led led long =
        record {
          none = λ n r h follow t.
              let m = matches n r (omega arith) follow t in
              elim (cases_eq n 0) [
                | inl is ↦ let one : length (decimal n) ≡ 1 = ap (λ k. length (decimal k)) is ∙ ap length (decimal_digit 0 (omega arith)) in omega (arith, ap length m)
                | inr some ↦ omega (arith, first_decimal n (omega arith) (omega arith), ap (λ z. get_or z 0 0) m)
              ];
        }

    pub no_digits : length digits ≡ 0 → Nothing (numbers max) s
    no_digits none = record { none = λ n r h follow t. omega (arith, decimal_nonempty n (omega arith), ap length (matches n r (omega arith) follow t)) }

    pub too_long : 10 < length digits → Nothing (numbers max) s
    too_long long = record { none = λ n r h follow t. omega (arith, length-decimal-le 10 n (omega arith) (omega arith) (omega arith), ap length (matches n r (omega arith) follow t)) }

    module _ (v : ℕ) (is : v ≡ digits_value 10 digits) where
      pub too_large : max < v → Nothing (numbers max) s
      too_large large =
          record {
            none = λ n r h follow t.
                let e : v ≡ n = is ∙ ap (digits_value 10) (matches n r (omega arith) follow t) ∙ digits_value-decimal own n (omega arith) in
                omega arith;
          }

      pub a_number : 0 < length digits → (get_or digits 0 0 ≡ 48 → length digits ≡ 1) → v ≤ max → Found (numbers max) s v rest
      a_number some led low =
          let d : decimal v ≡ digits = ap decimal is ∙ decimal-digits_value own digits run.all some led (omega (arith, is)) in
          record { good = low; text = run.splits ∙ ap (λ z. z ++ rest) (sym d); ends = run.ends; shorter = omega (arith, simp length-append at (ap length run.splits)) }

-- where the first byte stands that is no digit
module _ (s : List ℕ) where
  abbrev FirstOther : ℕ → Type 0
  FirstOther i = (i < length s) × HoldsAt (λ b. Digit b → ⊥) s i × AllWithin Digit s 0 i

  run_at : (i : ℕ) → AllWithin Digit s 0 i → NoDigit (drop i s) → Run s (take i s) (drop i s)
  run_at i all ends = record { splits = sym (take-append-drop i s); all = All-from_get_or Digit (take i s) 0 (λ k h. let under : k < i = omega (arith, simp length-take at h) in rw (get_or-take i s k 0 under) (all k 0 (omega arith) under)); ends = ends }

  pub run_to : (o : Option ℕ) → MatchOption o (AllWithin Digit s 0 (length s)) FirstOther → Run s (take (unwrap_or o (length s)) s) (drop (unwrap_or o (length s)) s)
  run_to None all = run_at (length s) all (rw (drop_all (length s) s (omega arith)) tt)
  run_to (Some i) first = run_at i first.2 (rw (drop_more s i 0 first.0) (first.1 0))
