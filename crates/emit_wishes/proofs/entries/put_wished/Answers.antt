use Rattle.std.proofs.Common.{fold, sym, ap, ◌∙◌}
use Rattle.model_text.specs.Trees.{print}
use Rattle.translation.specs.Written.{variable_name}
use Rattle.emit.proofs.Expressions.{text_written}
use Rattle.emit_wishes.specs.Sought.{wished}
use Rattle.emit_wishes.proofs.entries.put_wished.Goals as goal

pub returns-in-Value : goal.returns-in-Value
returns-in-Value g c e h =
    let f = g.S.Sink.step in
    let s = c.args.s.now in
    c.put.ensures e h ∙ ap (fold f s) (text_written variable_name e) ∙ ap (λ w. fold f s (print (wished w e))) (sym c.in-Value.is)
