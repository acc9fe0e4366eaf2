use Rattle.std.proofs.Common.{◌≡◌, ℕ, eqb, ◌||◌, List, [], ◌∷◌, refl, ap, ◌∙◌, rules, tests}
use Rattle.std.specs.List.{list_any}
use Rattle.std.proofs.lemmas.Iterator.{YieldsList-from_slice}
use Rattle.std.proofs.lemmas.Iterator.Search.{any_from_yields_List}
use Rattle.translation.specs.Systems.{is_in}
use Rattle.emit.proofs.parts.is_in.Goals as goal

any_is : (e : ℕ) (xs : List ℕ) → list_any (λ x. eqb e x) xs ≡ is_in e xs
any_is e [] = refl
any_is e (x ∷ xs) = ap (λ b. eqb e x || b) (any_is e xs)

pub returns : goal.returns
returns c =
    any_from_yields_List (λ x. eqb c.args.e x) _ _ _ c.any.ensures.ran (YieldsList-from_slice c.args.alphabet.now cc) (λ x b q k. search (rules, tests))
    ∙ any_is c.args.e c.args.alphabet.now
