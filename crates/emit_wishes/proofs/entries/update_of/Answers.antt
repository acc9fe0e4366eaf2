use Rattle.std.proofs.Common.{◌≡◌, ℕ, List, ◌∷◌, sym, refl, ap, ◌∙◌, subst}
use mathlib.Core.Option.{some}
use Rattle.std.proofs.lemmas.Bool.{cond-true, cond-false, eq-eqb, ne_eqb}
use Rattle.system.specs.System.{Update}
use Rattle.view.specs.Shown.{UpdatesOf}
use Rattle.translation.specs.Systems.{sought}
use Rattle.emit_wishes.proofs.entries.update_of.Goals as goal

sought_here : (i : ℕ) (u : Update) (us : List Update) → i ≡ u.variable → sought i (u ∷ us) ≡ some u.value
sought_here i u us e = cond-true _ _ _ (eq-eqb i u.variable e)

sought_later : (i : ℕ) (u : Update) (us : List Update) → (i ≡ u.variable → ⊥) → sought i (u ∷ us) ≡ sought i us
sought_later i u us e = cond-false _ _ _ (ne_eqb i u.variable e)

pub loop-update-init : goal.loop-update-init
loop-update-init c = (tt, tt, λ us h. (us, subst (λ r. UpdatesOf r us) (sym c.into_iter-update-iterator.ensures.into_iter_gives) h, refl))

pub returns-then-i-update : goal.returns-then-i-update
returns-then-i-update c us h =
    let left = c.loop-update.invariant.2 us h in
    let next = c.in-Some.ensures.steps left.0 left.1 in
    record {
      value = next.head.value;
      is = sym left.2 ∙ ap (sought c.args.i) next.are ∙ sought_here c.args.i next.head next.tail (c.if-i-update.true ∙ next.first.variable);
      coded = next.first.value;
    }

pub loop-update-preserved : goal.loop-update-preserved
loop-update-preserved c = (
  tt,
  tt,
  λ us h.
      let left = c.loop-update.invariant.2 us h in
      let next = c.in-Some.ensures.steps left.0 left.1 in
      (next.tail, next.rest, sym (ap (sought c.args.i) next.are ∙ sought_later c.args.i next.head next.tail (λ e. c.if-i-update.false (e ∙ sym next.first.variable))) ∙ left.2),
)

pub returns : goal.returns
returns c us h = let left = c.loop-update.invariant.2 us h in sym left.2 ∙ ap (sought c.args.i) (c.in-None.ensures.steps left.0 left.1)
