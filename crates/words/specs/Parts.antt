-- Names with one number and with two.
use Rattle.std.specs.Prelude.{ℕ, ◌≤◌}
use Rattle.model_text.specs.declared.words.Name.{Name}
use Rattle.model_text.specs.declared.words.Name.TheVariants as N
use Rattle.model_text.specs.declared.words.Single.{Single}
use Rattle.model_text.specs.Words.{name_text, Stops}
use Rattle.words.specs.Digits.{NoDigit}
use Rattle.words.specs.Forms.{Form}

-- a letter and a number, which no further digit follows
abbrev pub numbered : Form (Single × ℕ)
numbered = record { good = λ p. p.1 ≤ 999; text = λ p. name_text (N.One p.0 p.1); follow = NoDigit }

-- as whole words
abbrev pub GoodOne : Name → Type 0
GoodOne N.Event = ⊥
GoodOne N.Marked = ⊥
GoodOne (N.One x n) = n ≤ 999
GoodOne (N.Two x n m) = ⊥

abbrev pub GoodTwo : Name → Type 0
GoodTwo N.Event = ⊥
GoodTwo N.Marked = ⊥
GoodTwo (N.One x n) = ⊥
GoodTwo (N.Two x n m) = (n ≤ 999) × (m ≤ 999)

abbrev pub ones : Form Name
ones = record { good = GoodOne; text = name_text; follow = Stops }

abbrev pub twos : Form Name
twos = record { good = GoodTwo; text = name_text; follow = Stops }
