use Rattle.view.proofs.Systems.{viewed}
use Rattle.writer.proofs.Texts.{shown_bounded}
use Rattle.writer.proofs.write_view.Goals as goal

pub write_of-requires : goal.write_of-requires
write_of-requires g c = shown_bounded g.R.Rule.rule _ _ _ (viewed c.args.view) g.met.R.Rule.lawful
