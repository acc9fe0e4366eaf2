use Rattle.std.proofs.Common.{◌≡◌, ◌+◌, ◌-◌, take, subst, arith}
use mathlib.Core.Logic.{∥∥₁_map}
use Rattle.emit.proofs.OwnRows.{Seen, Past, first_rows, seen_more, past_none, past_other, seen_all}
use Rattle.emit.proofs.rows.split_own.Goals as goal
use Rattle.emit.proofs.rows.split_own.Goals.{in-None-1, in-Some+else-row-k}

pub loop-row-preserved : goal.loop-row-preserved
loop-row-preserved c =
    let next = c.in-Some.ensures in
    let seen = c.loop-row.invariant in
    let one : c.args.rows.now.left - c.loop-row.rest.left + 1 ≡ c.args.rows.now.left - c.in-Some.others.left = omega (arith, seen.within, next.left) in
    subst (Seen c.args.rows.now c.in-Some.others c.args.k) one (seen_more _ _ _ _ seen c.in-Some.row c.in-Some.others next.first next.left c.if-row-k.true)

pub invariant_of-own : goal.invariant_of-own
invariant_of-own c =
    let r = c.args.rows.now in
    record { stand = ∥∥₁_map r.stand (λ w. (take (r.left - c.loop-row.rest.left) w.0, first_rows r.file.now r.at r.left _ w.0 w.1 (omega arith))) }

pub returns : goal.returns
returns c =
    let seen = c.loop-row.invariant in
    let past : Past c.args.rows.now c.loop-row.rest c.args.k _ seen =
    elim c.match-split_first.branch [
      | in-None-1 w ↦ past_none _ _ _ _ seen w.in-None-1.ensures.0
      | in-Some+else-row-k w ↦ past_other _ _ _ _ seen w.in-Some.row w.in-Some.others w.in-Some.ensures.first w.if-row-k.false
    ]
    in
    seen_all _ _ _ _ seen past
