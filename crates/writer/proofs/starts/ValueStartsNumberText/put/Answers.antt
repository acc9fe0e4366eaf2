use Rattle.std.proofs.Common.{ap, rules, arith}
use Rattle.std.proofs.lemmas.Grind.{common_steps}
use Rattle.view.specs.Shown.{system_of}
use Rattle.translation.specs.Systems.{variable}
use Rattle.emit.proofs.Values.{number-told}
use Rattle.writer.proofs.starts.ValueStartsNumberText.put.Goals as goal

pub returns : goal.returns
returns g c =
    let v = variable (system_of c.args.view.now) c.args.i in
    let start = number-told g.S.Sink.step c.put_text-2.new.s c.put_value.new.s c.values_of-values.result.start v.start (search rules) (ap (λ x. x.start) c.values_of-values.ensures) c.put_value.ensures in
    grind (arith, common_steps)
