-- What `write` answers and leaves: the whole text where it fits, and else nothing but its length.
use Rattle.std.specs.Prelude.{◌≡◌, ℕ, cond, List, ◌++◌, length, drop, Ok, Err, Result, nat_le}

pub record Written (t before after : List ℕ) (r : Result ℕ ℕ) : Type 0 where
  pub answer : r ≡ cond (nat_le (length t) (length before)) (Ok (length t)) (Err (length t))
  pub bytes : after ≡ cond (nat_le (length t) (length before)) (t ++ drop (length t) before) before
