use Rattle.std.proofs.Common.{◌<◌, ◌&&◌, ◌||◌, eqb, ltb, length, get_or, sym, ap, ◌∙◌, arith}
use Rattle.std.proofs.lemmas.List.{take_more, take_all}
use Rattle.number_sets.specs.Sets.{among}
use Rattle.number_sets.proofs.Collected.{list_more}
use Rattle.number_sets.proofs.collect.numbers_of.Goals as goal

pub loop-event-preserved : goal.loop-event-preserved
loop-event-preserved c k =
    let xs = c.args.alphabet.now in
    let i = c.loop-event.event-index in
    let x = get_or xs i 0 in
    let within : i < length xs = omega arith in
    c.insert.ensures k
    ∙ ap (λ b. b || (eqb k x && ltb x 64)) (c.loop-event.invariant k)
    ∙ list_more _ x k
    ∙ ap (λ ys. ltb k 64 && among ys k) (sym (take_more xs i 0 within))

pub returns : goal.returns
returns c k =
    c.loop-event.invariant k ∙ ap (λ ys. ltb k 64 && among ys k) (take_all _ c.args.alphabet.now (omega arith))
