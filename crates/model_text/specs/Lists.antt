-- Lists made index by index.
use Rattle.std.specs.Prelude.{ℕ, zero, suc, List, [], ◌++◌}

-- the lists f 0, f 1, .. below n, one after another
abbrev pub up_to : {A : Type 0} → ℕ → (ℕ → List A) → List A
up_to zero f = []
up_to (suc n) f = up_to n f ++ f n
