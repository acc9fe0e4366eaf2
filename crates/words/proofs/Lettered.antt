-- Names with numbers from their parts.
use Rattle.std.proofs.Common.{◌≡◌, ◌≢◌, ℕ, ◌≤◌, List, [], ◌∷◌, ◌++◌, length, decimal, sym, ap, ◌∙◌, subst, append_assoc, arith}
use Rattle.model_text.specs.declared.words.Name.{Name}
use Rattle.model_text.specs.declared.words.Name.TheVariants as N
use Rattle.model_text.specs.declared.words.Single.{Single}
use Rattle.model_text.specs.declared.words.Double.{Double}
use Rattle.model_text.specs.Words.{double, name_text, Stops}
use Rattle.words.specs.Digits.{Digit, NoDigit}
use Rattle.words.specs.Forms.{numbers, nexts}
use Rattle.words.specs.Readings.{Found, Nothing}
use Rattle.words.specs.Parts.{GoodOne, GoodTwo, numbered, ones, twos}
use Rattle.words.proofs.Decimal.{one_number}
use Rattle.words.proofs.Signs.{same_number, no_close}
use Rattle.words.proofs.Stopping.{no_digit}

tail : {x y : ℕ} {xs ys : List ℕ} → x ∷ xs ≡ y ∷ ys → xs ≡ ys
tail e = cc

no_low_line : Digit 95 → ⊥
no_low_line d = omega (arith, d.high)

-- one number
module _ (s : List ℕ) where
  one_by : ((x : Single) (n : ℕ) (r : List ℕ) → n ≤ 999 → Stops r → s ≡ name_text (N.One x n) ++ r → ⊥) → Nothing ones s
  one_by none = record { none = go }
    where
      go : (a : Name) (r : List ℕ) → GoodOne a → Stops r → s ≡ name_text a ++ r → ⊥
      go N.Event r g u t = elim g [ ]
      go N.Marked r g u t = elim g [ ]
      go (N.One x n) r g u t = none x n r g u t
      go (N.Two _ _ _) r g u t = elim g [ ]

  pub one_none : Nothing numbered s → Nothing ones s
  one_none n = one_by (λ x k r g u t. n.none (x, k) r g (no_digit r u) t)

  module _ (x : Single) (v : ℕ) (rest : List ℕ) (f : Found numbered s (x, v) rest) where
    same_numbered : (y : Single) (n : ℕ) (r : List ℕ) → n ≤ 999 → NoDigit r → s ≡ name_text (N.One y n) ++ r → rest ≡ r
    same_numbered y n r g u t = (one_number v n rest r (omega (arith, f.good)) (omega arith) f.ends u (tail (sym f.text ∙ t))).1

    pub one_runs : (Stops rest → ⊥) → Nothing ones s
    one_runs n = one_by (λ y k r g u t. n (subst Stops (sym (same_numbered y k r g (no_digit r u) t)) u))

    pub next_open : ((r : List ℕ) → rest ≢ 41 ∷ r) → Nothing nexts s
    next_open n = record { none = λ p r g u t. n r (same_numbered p.0 p.1 (41 ∷ r) g.1 no_close (t ∙ append_assoc (name_text (N.One p.0 p.1)) (41 ∷ []) r)) }

-- two numbers, behind the letter
module _ (s behind : List ℕ) (b : ℕ) (st : s ≡ b ∷ behind) where
  two_by : ((n m : ℕ) (r : List ℕ) → n ≤ 999 → m ≤ 999 → Stops r → behind ≡ decimal n ++ (95 ∷ (decimal m ++ r)) → ⊥) → Nothing twos s
  two_by none = record { none = go }
    where
      go : (a : Name) (r : List ℕ) → GoodTwo a → Stops r → s ≡ name_text a ++ r → ⊥
      go N.Event r g u t = elim g [ ]
      go N.Marked r g u t = elim g [ ]
      go (N.One _ _) r g u t = elim g [ ]
      go (N.Two x n m) r g u t = none n m r g.0 g.1 u (tail (sym st ∙ t) ∙ append_assoc (decimal n) (95 ∷ decimal m) r)

  module _ (v : ℕ) (mid : List ℕ) (f : Found (numbers 999) behind v mid) where
    second : (n m : ℕ) (r : List ℕ) → n ≤ 999 → behind ≡ decimal n ++ (95 ∷ (decimal m ++ r)) → mid ≡ 95 ∷ (decimal m ++ r)
    second n m r g t = (same_number 999 behind v mid (omega arith) f n _ (omega arith) no_low_line t).1

    pub two_bare : ((r : List ℕ) → mid ≢ 95 ∷ r) → Nothing twos s
    two_bare none = two_by (λ n m r g h u t. none _ (second n m r g t))

    module _ (low : List ℕ) (bar : mid ≡ 95 ∷ low) where
      third : (n m : ℕ) (r : List ℕ) → n ≤ 999 → behind ≡ decimal n ++ (95 ∷ (decimal m ++ r)) → low ≡ decimal m ++ r
      third n m r g t = tail (sym bar ∙ second n m r g t)

      pub two_half : Nothing (numbers 999) low → Nothing twos s
      two_half k = two_by (λ n m r g h u t. k.none m r h (no_digit r u) (third n m r g t))

      module _ (w : ℕ) (rest : List ℕ) (l : Found (numbers 999) low w rest) where
        pub two_runs : (Stops rest → ⊥) → Nothing twos s
        two_runs on = two_by (λ n m r g h u t. on (subst Stops (sym (same_number 999 low w rest (omega arith) l m r (omega arith) (no_digit r u) (third n m r g t)).1) u))

        pub a_two : (x : Double) → double x ≡ b → Stops rest → Found twos s (N.Two x v w) rest
        a_two x letter stops =
            record {
              good = (f.good, l.good);
              text = st ∙ ap (λ z. z ∷ behind) (sym letter) ∙ ap (λ z. double x ∷ z) (f.text ∙ ap (λ z. decimal v ++ z) (bar ∙ ap (λ z. 95 ∷ z) l.text) ∙ sym (append_assoc (decimal v) (95 ∷ decimal w) rest));
              ends = stops;
              shorter = omega (arith, f.shorter, l.shorter, ap length bar, ap length st);
            }
