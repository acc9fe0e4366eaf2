use Rattle.std.proofs.Common.{ap, rules, arith}
use Rattle.std.proofs.lemmas.Grind.{common_steps}
use Rattle.std.specs.Fmt.{signed_decimal}
use Rattle.view.specs.Shown.{system_of}
use Rattle.translation.specs.Systems.{variable}
use Rattle.emit.proofs.Values.{value-told}
use Rattle.writer.proofs.ranges.ValueRangesNumberText.put.Goals as goal

pub returns : goal.returns
returns g c =
    let f = g.S.Sink.step in
    let v = variable (system_of c.args.view.now) c.args.i in
    let is = c.values_of-values.ensures in
    let low = value-told signed_decimal f c.put_text.new.s c.put_signed.new.s c.values_of-values.result.low v.low (search rules) (ap (λ x. x.low) is) c.put_signed.ensures in
    let high = value-told signed_decimal f c.put_text-2.new.s c.put_signed-2.new.s c.values_of-values.result.high v.high (search rules) (ap (λ x. x.high) is) c.put_signed-2.ensures in
    grind (arith, common_steps)
