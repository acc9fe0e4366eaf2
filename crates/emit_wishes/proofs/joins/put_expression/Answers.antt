use Rattle.std.proofs.Common.{[], ◌∷◌, ◌++◌, codes, append_assoc}
use Rattle.expr.specs.Text.{text_of}
use Rattle.model_text.specs.Words.{name_text}
use Rattle.emit.proofs.Sent.{sent_as}
use Rattle.emit_wishes.specs.Lines.{defined}
use Rattle.emit_wishes.proofs.joins.put_expression.Goals as goal

pub returns : goal.returns
returns g c e h =
    let x = name_text c.args.x in
    let body = text_of (g.N.Names.name c.args.names.now) e in
    sent_as g.S.Sink.step c.args.s.now _ ((x ++ codes " := ") ∷ (body ∷ [])) (codes ";\n") (defined c.args.x body)
    (c.begin_definition.new.s, c.begin_definition.ensures, (c.put.new.s, c.put.ensures e h, c.put_text.ensures))
    (append_assoc x (codes " := ") _)
