use Rattle.std.proofs.Common.{[], ◌∷◌, ◌++◌, codes, append_assoc}
use Rattle.model_text.specs.Words.{name_text}
use Rattle.emit.proofs.Sent.{sent_as}
use Rattle.emit_wishes.specs.Lines.{defined}
use Rattle.emit_wishes.proofs.joins.put_copy.Goals as goal

pub returns : goal.returns
returns g c =
    let x = name_text c.args.x in
    sent_as g.S.Sink.step c.args.s.now _ ((x ++ codes " := ") ∷ (name_text c.args.y ∷ [])) (codes ";\n") (defined c.args.x (name_text c.args.y))
    (c.begin_definition.new.s, c.begin_definition.ensures, (c.put_name.new.s, c.put_name.ensures, c.put_text.ensures))
    (append_assoc x (codes " := ") _)
