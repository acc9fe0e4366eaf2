use Rattle.std.proofs.Common.{[], ◌∷◌}
use Rattle.view.specs.Shown.{system_of}
use Rattle.emit.specs.Texts.{declarations_text, definitions_text, constraints_text}
use Rattle.emit.proofs.Sent.{sent}
use Rattle.writer.proofs.model.put_model.Goals as goal

pub returns : goal.returns
returns g c =
    let R = g.R.Rule.rule in
    let S = system_of c.args.view.now in
    sent g.S.Sink.step c.args.s.now _ (declarations_text S R ∷ (definitions_text S R ∷ [])) (constraints_text S R)
    (c.put_declarations.new.s, c.put_declarations.ensures, (c.put_definitions.new.s, c.put_definitions.ensures, c.put_constraints.ensures R))
