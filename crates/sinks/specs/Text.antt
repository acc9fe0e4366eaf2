-- Texts of values, texts one after another, and a text laid over a buffer.
use Rattle.std.specs.Prelude.{ℕ, suc, ◌+◌, List, [], ◌∷◌, ◌++◌, length, take, drop, ℤ, pos, negsuc, codes, decimal}

-- `7`, or `(-7)`
abbrev pub value_text : ℤ → List ℕ
value_text (pos n) = decimal n
value_text (negsuc n) = codes "(-" ++ (decimal (suc n) ++ codes ")")

-- texts one after another
abbrev pub joined : List (List ℕ) → List ℕ
joined [] = []
joined (x ∷ xs) = x ++ joined xs

-- one text after another, each from an element and its place, which is counted from k
abbrev pub each : {X : Type 0} → (ℕ → X → List ℕ) → ℕ → List X → List ℕ
each f k [] = []
each f k (x ∷ xs) = f k x ++ each f (k + 1) xs

-- the bytes of t over those of o from i on
abbrev pub laid : List ℕ → ℕ → List ℕ → List ℕ
laid o i t = take i o ++ (t ++ drop (i + length t) o)
