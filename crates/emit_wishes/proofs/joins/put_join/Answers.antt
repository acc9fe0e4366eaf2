use Rattle.std.proofs.Common.{◌-◌, ◌<◌, [], ◌∷◌, fold, ap, ◌∙◌, arith, rules}
use Rattle.model_text.specs.declared.words.Double.TheVariants.{WishStatus, WishValue, JoinedStatus, JoinedValue}
use Rattle.model_text.specs.declared.words.Name.TheVariants as N
use Rattle.translation.specs.Written.{name, written, join_name}
use Rattle.emit.specs.Texts.{definition_text, join_text}
use Rattle.emit.proofs.Sent.{sent_as}
use Rattle.emit.proofs.Expressions.{text_written}
use Rattle.emit_wishes.specs.Lines.{defined}
use Rattle.emit_wishes.proofs.JoinCases.{join_first, join_later}
use Rattle.emit_wishes.proofs.joins.put_join.Goals as goal

pub returns-then-k-eq0 : goal.returns-then-k-eq0
returns-then-k-eq0 g c =
    let i = c.args.i in
    let k = c.args.k in
    let R = g.R.Rule.rule in
    sent_as g.S.Sink.step c.args.s.now _ (definition_text (N.Two JoinedStatus i k) (name (N.Two WishStatus i 0)) ∷ []) (definition_text (N.Two JoinedValue i k) (name (N.Two WishValue i 0))) (join_text R i k)
    (c.put_copy.new.s, c.put_copy.ensures, c.put_copy-then-k-eq0.ensures)
    (join_first R i k c.if-k-eq0.true)

pub returns : goal.returns
returns g c =
    let f = g.S.Sink.step in
    let s = c.args.s.now in
    let i = c.args.i in
    let k = c.args.k in
    let R = g.R.Rule.rule in
    let x = N.Two JoinedStatus i k in
    let y = N.Two JoinedValue i k in
    let later : 0 < k = omega arith in
    sent_as f s _ (definition_text x (written (join_name i (k - 1)) R.joined_status) ∷ []) (definition_text y (written (join_name i (k - 1)) R.joined_value)) (join_text R i k) (
      c.put_expression.new.s,
      c.put_expression.ensures R.joined_status (search rules) ∙ ap (λ z. fold f s (defined x z)) (text_written (join_name i (k - 1)) R.joined_status),
      c.put_expression-2.ensures R.joined_value (search rules) ∙ ap (λ z. fold f c.put_expression.new.s (defined y z)) (text_written (join_name i (k - 1)) R.joined_value),
    )
    (join_later R i k later)
