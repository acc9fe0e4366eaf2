use Rattle.std.proofs.Common.{ap, w16, SFits, rules, arith}
use Rattle.std.proofs.lemmas.Grind.{common_steps}
use Rattle.view.specs.Shown.{system_of}
use Rattle.translation.specs.Systems.{variable}
use Rattle.emit.proofs.Sent.{zero_digit}
use Rattle.emit.proofs.Values.{number-told}
use Rattle.emit_marks.proofs.marks.ValueEntriesNumberText.put.Goals as goal

pub returns : goal.returns
returns g c =
    let f = g.S.Sink.step in
    let r = c.values_of-range.result in
    let v = variable (system_of c.args.view.now) c.args.i in
    let is = c.values_of-range.ensures in
    let low_fits : SFits w16 r.marked_low = search rules in
    let high_fits : SFits w16 r.marked_high = search rules in
    let low = number-told f c.put_text-2.new.s c.put_value.new.s r.marked_low v.marked_low low_fits (ap (λ y. y.marked_low) is) c.put_value.ensures in
    let high = number-told f c.put_text-3.new.s c.put_value-2.new.s r.marked_high v.marked_high high_fits (ap (λ y. y.marked_high) is) c.put_value-2.ensures in
    grind (arith, common_steps, zero_digit)
