-- The words of a line, with one space between two, and the bytes that a word stands for.
use Rattle.std.specs.Prelude.{◌≡◌, ℕ, ◌<◌, Bool, cond, ◌&&◌, List, [], ◌∷◌, ◌++◌, length, Some, None, Option, ◌==◌, ◌≢◌, slice_index}
use Rattle.hexadecimal.specs.Hex.{bytes_of}

-- what follows a word: nothing, or a space and other words
abbrev pub behind : Option (List ℕ) → List ℕ
behind None = []
behind (Some others) = 32 ∷ others

-- a line begins with a word, and others follow if any do
pub record Begins (line word : List ℕ) (others : Option (List ℕ)) : Type 0 where
  pub whole : line ≡ word ++ behind others
  pub spaceless : (k : ℕ) → k < length word → slice_index word k ≢ 32

-- the word `-`
abbrev pub dash : List ℕ → Bool
dash word = length word == 1 && slice_index word 0 == 45

-- `-` is no bytes, any other word is hexadecimal and not empty
abbrev pub word_bytes : List ℕ → Option (List ℕ)
word_bytes word = cond (length word == 0) None (cond (dash word) (Some []) (bytes_of word))
