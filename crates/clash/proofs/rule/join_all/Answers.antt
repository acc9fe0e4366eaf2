use Rattle.std.proofs.Common.{◌≡◌, [], ◌∷◌, fold, subst, rules}
use Rattle.std.proofs.lemmas.Fn.{fold_over, slice_gives, fronts}
use Rattle.std.proofs.lemmas.List.Sums.{fold-append}
use Rattle.clash.specs.Wishes.{none}
use Rattle.clash.proofs.Folds.{total}
use Rattle.clash.proofs.rule.join_all.Goals as goal

pub returns : goal.returns
returns g c =
    let law = g.met.R.Rule.lawful in
    let op = g.R.Rule.rule.joins in
    total none op law.none_joins law.commutes law.associates _ _ (subst (λ l. c.fold.result ≡ fold op none l) c.iter.ensures.rest
    (fold_over fronts (λ y. y.now) _ (λ ys r. r ≡ fold op none ys) _ (λ ys a x b f' j k. let more = fold-append op none ys (x.now ∷ []) in search rules)
    _ _ _ _ (slice_gives c.iter.result) c.none.ensures c.fold.ensures.ran))
