-- Numbers with a sign, and behind a minus.
use Rattle.std.proofs.Common.{◌≡◌, ◌≢◌, ℕ, suc, ◌^◌, ◌<◌, ◌≤◌, min, List, [], ◌∷◌, ◌++◌, get_or, ℤ, pos, negsuc, nat_abs, decimal, sym, ap, ◌∙◌, append_assoc, arith}
use Rattle.std.specs.Fmt.{signed_decimal}
use Rattle.std.proofs.lemmas.List.{append_cancel_left}
use Rattle.model_text.proofs.Munch.{numeric}
use Rattle.words.specs.Digits.{Digit, NoDigit}
use Rattle.words.specs.Forms.{numbers, signeds, minuses}
use Rattle.words.specs.Readings.{Found, Nothing}
use Rattle.words.proofs.Decimal.{one_number}

-- the number that is read is the one printed
pub same_number : (max : ℕ) (s : List ℕ) (v : ℕ) (rest : List ℕ) → max < 2 ^ 32 → Found (numbers max) s v rest → (n : ℕ) (r : List ℕ) → n < 2 ^ 64 → NoDigit r → s ≡ decimal n ++ r → (v ≡ n) × (rest ≡ r)
same_number max s v rest small f n r low follow t =
    one_number v n rest r (omega (arith, f.good)) low f.ends follow (sym f.text ∙ t)

pub no_close : Digit 41 → ⊥
no_close d = omega (arith, d.low)

-- behind `(-`
module _ (max : ℕ) (small : max < 2 ^ 32) (s : List ℕ) (v : ℕ) (rest : List ℕ) (f : Found (numbers max) s v rest) where
  minus_number : (k : ℕ) (r : List ℕ) → k ≤ 32768 → s ≡ (decimal k ++ (41 ∷ [])) ++ r → (v ≡ k) × (rest ≡ 41 ∷ r)
  minus_number k r low t = same_number max s v rest small f k (41 ∷ r) (omega arith) no_close (t ∙ append_assoc (decimal k) (41 ∷ []) r)

  pub minus_zero : v ≡ 0 → Nothing minuses s
  minus_zero none = record { none = λ k r g u t. omega (arith, g.0, (minus_number k r g.1 t).0) }

  pub minus_open : ((r : List ℕ) → rest ≢ 41 ∷ r) → Nothing minuses s
  minus_open n = record { none = λ k r g u t. n r (minus_number k r g.1 t).1 }

-- behind `-`
module _ (max most : ℕ) (cap : most ≡ min max 2147483647) (s behind : List ℕ) (st : s ≡ 45 ∷ behind) where
  not_plain : (k : ℕ) (r : List ℕ) → k < 2 ^ 64 → s ≡ decimal k ++ r → ⊥
  not_plain k r h t =
      let i = numeric k h in
      let d = i.digit in
      let e : ◌≡◌ {A = ℕ} 45 i.first = ap (λ z. get_or z 0 0) (sym st ∙ t ∙ ap (λ z. z ++ r) i.is) in
      omega arith

  negative : ((k : ℕ) (r : List ℕ) → suc k ≤ most → NoDigit r → behind ≡ decimal (suc k) ++ r → ⊥) → Nothing (signeds max) s
  negative n = record { none = go }
    where
      go : (z : ℤ) (r : List ℕ) → nat_abs z ≤ min max 2147483647 → NoDigit r → s ≡ signed_decimal z ++ r → ⊥
      go (pos k) r g u t = not_plain k r (omega arith) t
      go (negsuc k) r g u t = n k r (omega arith) u (append_cancel_left (45 ∷ []) _ _ (sym st ∙ t))

  pub negative_none : Nothing (numbers most) behind → Nothing (signeds max) s
  negative_none n = negative (λ k r g u t. n.none (suc k) r g u t)

  pub negative_zero : (v : ℕ) (rest : List ℕ) → Found (numbers most) behind v rest → v ≡ 0 → Nothing (signeds max) s
  negative_zero v rest f none = negative (λ k r g u t. omega (arith, (same_number most behind v rest (omega arith) f (suc k) r (omega arith) u t).0))
