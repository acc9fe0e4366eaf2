use Rattle.std.proofs.Common.{[], ◌∷◌, fold, ap, ◌∙◌, rules}
use Rattle.model_text.specs.declared.words.Single.TheVariants.{SettledValue, Permission}
use Rattle.model_text.specs.declared.words.Name.TheVariants as N
use Rattle.translation.specs.Written.{written, settle_name}
use Rattle.emit.specs.Texts.{definition_text}
use Rattle.emit.proofs.Sent.{sent}
use Rattle.emit.proofs.Expressions.{text_written}
use Rattle.emit_wishes.specs.Lines.{defined}
use Rattle.emit_wishes.proofs.joins.put_settle.Goals as goal

pub returns : goal.returns
returns g c =
    let f = g.S.Sink.step in
    let s = c.args.s.now in
    let i = c.args.i in
    let names = settle_name i c.args.k in
    let R = g.R.Rule.rule in
    let x = N.One SettledValue i in
    let y = N.One Permission i in
    sent f s _ (definition_text x (written names R.settled_value) ∷ []) (definition_text y (written names R.permission)) (
      c.put_expression.new.s,
      c.put_expression.ensures R.settled_value (search rules) ∙ ap (λ z. fold f s (defined x z)) (text_written names R.settled_value),
      c.put_expression-2.ensures R.permission (search rules) ∙ ap (λ z. fold f c.put_expression.new.s (defined y z)) (text_written names R.permission),
    )
