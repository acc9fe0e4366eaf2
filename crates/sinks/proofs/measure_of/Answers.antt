use Rattle.std.proofs.Common.{ap, ◌∙◌, zero-add, arith}
use Rattle.sinks.proofs.Ends.{counts}
use Rattle.sinks.proofs.measure_of.Goals as goal

pub returns : goal.returns
returns g c =
    let t = g.D.Document.shown c.args.d.now in
    ap (λ s. s.n) c.emit.ensures ∙ counts t (record { n = 0 }) (omega arith) ∙ zero-add _
