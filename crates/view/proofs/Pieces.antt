-- Pieces of one length that stand one after another, by their numbers.
use Rattle.std.proofs.Common.{◌≡◌, ℕ, zero, suc, ◌+◌, ◌*◌, ◌<◌, List, [], ◌∷◌, length, get_or, sym, subst, mul-zero, mul-suc, arith, length-append}
use Rattle.std.specs.List.{flat_map}
use Rattle.scan.specs.Stands.{Stands}
use Rattle.scan.proofs.Standing.{stands_split}

module _ {A : Type 0} (f : A → List ℕ) (n : ℕ) (each : (x : A) → length (f x) ≡ n) where
  pub joined_long : (xs : List A) → length (flat_map f xs) ≡ n * length xs
  joined_long [] = sym (mul-zero n)
  joined_long (x ∷ xs) = omega (arith, length-append (f x) (flat_map f xs), each x, joined_long xs, mul-suc n (length xs))

  pub piece_stands : (s : List ℕ) (at : ℕ) (xs : List A) (i : ℕ) (d : A) → i < length xs → Stands s at (flat_map f xs) → Stands s (at + n * i) (f (get_or xs i d))
  piece_stands s at [] i d under h = absurd (let z : ⊥ = omega arith in z)
  piece_stands s at (x ∷ xs) zero d under h =
      let e : at ≡ at + n * 0 = omega (arith, mul-zero n) in
      subst (λ k. Stands s k (f x)) e (stands_split s at (f x) (flat_map f xs) h).0
  piece_stands s at (x ∷ xs) (suc i) d under h =
      let e : at + length (f x) + n * i ≡ at + n * suc i = omega (arith, each x, mul-suc n i) in
      subst (λ k. Stands s k (f (get_or xs i d))) e (piece_stands s (at + length (f x)) xs i d (omega arith) (stands_split s at (f x) (flat_map f xs) h).1)
