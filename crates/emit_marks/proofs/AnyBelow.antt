-- A test that is true of a number below n is true of one in the range up to n.
use Rattle.std.proofs.Common.{◌≡◌, ℕ, zero, suc, ◌+◌, Bool, true, false, ◌||◌, refl, ap, ◌∙◌, arith}
use Rattle.std.specs.List.{list_any, range_with_len}
use Rattle.translation.specs.Systems.{any_below}

or_false : (a : Bool) → a || false ≡ a
or_false true = refl
or_false false = refl

or_grouped : (a b c : Bool) → a || (b || c) ≡ (a || b) || c
or_grouped true b c = refl
or_grouped false b c = refl

module _ (f : ℕ → Bool) where
  last_apart : (a n : ℕ) → list_any f (range_with_len a (suc n)) ≡ list_any f (range_with_len a n) || f (a + n)
  last_apart a zero = let e : a ≡ a + 0 = omega arith in or_false (f a) ∙ ap f e
  last_apart a (suc n) =
      let e : a + 1 + n ≡ a + suc n = omega arith in
      ap (λ b. f a || b) (last_apart (a + 1) n) ∙ or_grouped (f a) (list_any f (range_with_len (a + 1) n)) (f (a + 1 + n)) ∙ ap (λ k. (f a || list_any f (range_with_len (a + 1) n)) || f k) e

  pub any_in_range : (n : ℕ) → list_any f (range_with_len 0 n) ≡ any_below n f
  any_in_range zero = refl
  any_in_range (suc n) =
      let e : 0 + n ≡ n = omega arith in
      last_apart 0 n ∙ ap (λ b. b || f (0 + n)) (any_in_range n) ∙ ap (λ k. any_below n f || f k) e
