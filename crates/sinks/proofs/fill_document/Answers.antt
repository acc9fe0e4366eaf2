use Rattle.std.proofs.Common.{ap, ◌∙◌}
use Rattle.sinks.proofs.Ends.{fills}
use Rattle.sinks.proofs.fill_document.Goals as goal

pub returns : goal.returns
returns g c =
    let end = c.emit.ensures ∙ fills (g.D.Document.shown c.args.d.now) c.args.f.now c.requires in
    record { kept = ap (λ f. f.out.ghost_name) end; bytes = ap (λ f. f.out.now) end }
