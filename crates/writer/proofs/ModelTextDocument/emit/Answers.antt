use Rattle.std.proofs.Common.{fold, ap, ◌∙◌}
use Rattle.view.proofs.Systems.{viewed}
use Rattle.writer.proofs.Texts.{shown_whole}
use Rattle.writer.proofs.ModelTextDocument.emit.Goals as goal

pub returns : goal.returns
returns g c = c.put_model.ensures ∙ ap (fold g.S.Sink.step c.args.s.now) (shown_whole g.R.Rule.rule _ _ _ (viewed c.args.self.now.view))
