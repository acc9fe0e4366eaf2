-- The text of a test for each event of an alphabet: parentheses first, then test after test.
use Rattle.std.proofs.Common.{◌≡◌, ℕ, zero, suc, List, [], ◌∷◌, ◌++◌, length, replicate, sym, refl, ap, ◌∙◌, append_assoc}
use Rattle.std.specs.List.{flat_map}
use Rattle.std.proofs.lemmas.List.{append-nil}
use Rattle.model_text.specs.declared.words.Name.TheVariants as N
use Rattle.model_text.specs.Trees.{expr, Tree, print}
use Rattle.translation.specs.Written.{is_not}
use Rattle.translation.specs.Translate.{both, none_of, outside}
use Rattle.emit_choices.specs.Further.{further}

-- equal bytes may stand on either side
repeated : (n b : ℕ) (xs : List ℕ) → replicate n b ++ (b ∷ xs) ≡ b ∷ (replicate n b ++ xs)
repeated zero b xs = refl
repeated (suc n) b xs = ap (λ z. b ∷ z) (repeated n b xs)

none-text : (g : Tree expr) (es : List ℕ) → print (none_of g es) ≡ replicate (length es) 40 ++ (print g ++ flat_map further es)
none-text g [] = sym (append-nil (print g))
none-text g (e ∷ es) =
    none-text (both g (is_not N.Event e)) es
    ∙ ap (λ z. replicate (length es) 40 ++ (40 ∷ z)) (append_assoc (print g) (further e) (flat_map further es))
    ∙ repeated (length es) 40 (print g ++ (further e ++ flat_map further es))

pub outside-text : (e : ℕ) (es : List ℕ) → print (outside (e ∷ es)) ≡ replicate (length es) 40 ++ (print (is_not N.Event e) ++ flat_map further es)
outside-text e es = none-text (is_not N.Event e) es
