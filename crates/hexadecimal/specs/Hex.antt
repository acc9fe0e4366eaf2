-- Hexadecimal text: the value of a digit, and the bytes that a text stands for.
use Rattle.std.specs.Prelude.{ℕ, ◌+◌, ◌-◌, ◌*◌, cond, ◌&&◌, List, [], ◌∷◌, Some, None, Option, nat_le}

-- `0` to `9`, `a` to `f` and `A` to `F`
abbrev pub digit_of : ℕ → Option ℕ
digit_of b =
    cond (nat_le 48 b && nat_le b 57) (Some (b - 48))
    (cond (nat_le 97 b && nat_le b 102) (Some (b - 97 + 10))
    (cond (nat_le 65 b && nat_le b 70) (Some (b - 65 + 10)) None))

abbrev pub joined : Option ℕ → Option ℕ → Option ℕ
joined None low = None
joined (Some high) None = None
joined (Some high) (Some low) = Some (16 * high + low)

-- the byte of two digits, the high one first
abbrev pub pair_of : ℕ → ℕ → Option ℕ
pair_of high low = joined (digit_of high) (digit_of low)

abbrev pub prefixed : Option ℕ → Option (List ℕ) → Option (List ℕ)
prefixed None bs = None
prefixed (Some b) None = None
prefixed (Some b) (Some bs) = Some (b ∷ bs)

-- two digits a byte, from the first to the last
abbrev pub bytes_of : List ℕ → Option (List ℕ)
bytes_of [] = Some []
bytes_of (high ∷ []) = None
bytes_of (high ∷ (low ∷ rest)) = prefixed (pair_of high low) (bytes_of rest)
