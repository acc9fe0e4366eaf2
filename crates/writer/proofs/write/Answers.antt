use Rattle.std.proofs.Common.{take, sym, ap, subst}
use Rattle.sinks.specs.Post.{Written}
use Rattle.view.proofs.Systems.{viewed}
use Rattle.writer.specs.Answered.{file_text, Answered, SaysSystem}
use Rattle.writer.proofs.Texts.{answered, passed_on, when_ok, says-system, text_in_front}
use Rattle.writer.proofs.write.Goals as goal

pub returns-clause-exact : goal.returns-clause-exact
returns-clause-exact g c =
    let R = g.R.Rule.rule in
    let a = c.in_ok-view.ensures.exact.agree in
    let same = ap (λ b. b.now) a.holds.0 in
    let told = subst (λ s. Written (file_text R s) c.args.out.now c.write_view.new.out c.write_view.result) same c.write_view.ensures in
    subst (Answered R c.args.file.now c.args.out.now c.write_view.new.out) (sym (passed_on c.write_view.result c.map_err.result c.map_err.ensures.cases)) (answered R _ _ _ a.value a.end _ a.is told)

pub returns-clause-means : goal.returns-clause-means
returns-clause-means g c =
    let R = g.R.Rule.rule in
    let v = c.in_ok-view.view in
    let same = ap (λ b. b.now) c.in_ok-view.ensures.exact.agree.holds.0 in
    when_ok c.write_view.result c.map_err.result _ _ c.map_err.ensures.cases (λ n is.
    let told = subst (Written (file_text R v.file.now) c.args.out.now c.write_view.new.out) is c.write_view.ensures in
    subst (λ s. SaysSystem R s (take n c.write_view.new.out)) same (says-system R v.file.now v.layout _ (viewed v) g.met.R.Rule.lawful _ (text_in_front _ _ _ n told)))
