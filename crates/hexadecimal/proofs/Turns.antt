-- The bytes of a text, two digits at a time: those that are read, and those of the pairs that are left.
use Rattle.std.proofs.Common.{◌≡◌, ℕ, zero, suc, ◌+◌, ◌*◌, ◌<◌, ◌≤◌, List, [], ◌∷◌, ◌++◌, length, get_or, drop, Some, None, Option, sym, refl, ap, ◌∙◌, append_assoc, append-nil, arith}
use Rattle.std.proofs.lemmas.List.{drop_more, drop_all}
use Rattle.std.specs.Simd.{first_chunks}
use Rattle.hexadecimal.specs.Hex.{pair_of, prefixed, bytes_of}

-- the bytes of a list of pairs
abbrev pub paired : List (List ℕ) → Option (List ℕ)
paired [] = Some []
paired (p ∷ ps) = prefixed (pair_of (get_or p 0 0) (get_or p 1 0)) (paired ps)

of_even : (k : ℕ) (text : List ℕ) → length text ≡ k * 2 → bytes_of text ≡ paired (first_chunks 2 k text)
of_even zero [] h = refl
of_even zero (a ∷ rest) h = absurd (omega arith)
of_even (suc k) [] h = absurd (omega arith)
of_even (suc k) (a ∷ []) h = absurd (omega arith)
of_even (suc k) (a ∷ (b ∷ rest)) h = ap (prefixed (pair_of a b)) (of_even k rest (omega arith))

no_bytes : (b : Option ℕ) → prefixed b None ≡ None
no_bytes None = refl
no_bytes (Some b) = refl

pub of_odd : (k : ℕ) (text : List ℕ) → length text ≡ k * 2 + 1 → bytes_of text ≡ None
of_odd k [] h = absurd (omega arith)
of_odd k (a ∷ []) h = refl
of_odd zero (a ∷ (b ∷ rest)) h = absurd (omega arith)
of_odd (suc k) (a ∷ (b ∷ rest)) h = ap (prefixed (pair_of a b)) (of_odd k rest (omega arith)) ∙ no_bytes (pair_of a b)

-- bytes in front of those that follow, if they do
abbrev pub after : List ℕ → Option (List ℕ) → Option (List ℕ)
after bs None = None
after bs (Some more) = Some (bs ++ more)

after_none : (o : Option (List ℕ)) → o ≡ after [] o
after_none None = refl
after_none (Some more) = refl

after_push : (bs : List ℕ) (b : ℕ) (o : Option (List ℕ)) → after bs (prefixed (Some b) o) ≡ after (bs ++ b ∷ []) o
after_push bs b None = refl
after_push bs b (Some more) = ap Some (sym (append_assoc bs (b ∷ []) more))

-- what is read of a text, up to its first i pairs
abbrev pub Read : List ℕ → List (List ℕ) → ℕ → List ℕ → Type 0
Read text ps i bs = bytes_of text ≡ after bs (paired (drop i ps))

pub read_none : (text : List ℕ) (ps : List (List ℕ)) (k : ℕ) → length text ≡ k * 2 → ps ≡ first_chunks 2 k text → Read text ps 0 []
read_none text ps k h is = of_even k text h ∙ ap paired (sym is) ∙ after_none (paired ps)

module _ (text : List ℕ) (ps : List (List ℕ)) (i : ℕ) (bs : List ℕ) (read : Read text ps i bs) where
  turn : i < length ps → bytes_of text ≡ after bs (prefixed (pair_of (get_or (get_or ps i []) 0 0) (get_or (get_or ps i []) 1 0)) (paired (drop (i + 1) ps)))
  turn h = read ∙ ap (λ rest. after bs (paired rest)) (drop_more ps i [] h)

  pub read_more : (b : ℕ) → i < length ps → pair_of (get_or (get_or ps i []) 0 0) (get_or (get_or ps i []) 1 0) ≡ Some b → Read text ps (i + 1) (bs ++ b ∷ [])
  read_more b h is =
      turn h ∙ ap (λ o. after bs (prefixed o (paired (drop (i + 1) ps)))) is ∙ after_push bs b (paired (drop (i + 1) ps))

  pub read_wrong : i < length ps → pair_of (get_or (get_or ps i []) 0 0) (get_or (get_or ps i []) 1 0) ≡ None → bytes_of text ≡ None
  read_wrong h is = turn h ∙ ap (λ o. after bs (prefixed o (paired (drop (i + 1) ps)))) is

  pub read_all : length ps ≤ i → bytes_of text ≡ Some bs
  read_all h = read ∙ ap (λ rest. after bs (paired rest)) (drop_all i ps h) ∙ ap Some (append-nil bs)
