use Rattle.std.proofs.Common.{sym, refl, subst}
use Rattle.std.proofs.lemmas.Result.{err_from_is_err_and}
use Rattle.system.specs.Verdict.{StandsFor}
use Rattle.system.proofs.Verdicts.{accepted_stands}
use Rattle.view.proofs.Systems.{read-answer, laid_out}
use Rattle.view.proofs.view.View.check.Goals as goal

pub invariant_of-result : goal.invariant_of-result
invariant_of-result c =
    let w = c.in_ok-layout.ensures.exact.agree in
    record { laid_out = ∣ laid_out _ _ w.value w.holds (λ i. (c.type_inv.file i).fits) ∣₁ }

pub returns : goal.returns
returns c =
    let s = c.args.file.now in
    let w = c.in_ok-layout.ensures.exact.agree in
    let is = read-answer s w.value w.end w.is in
    record {
      exact = record { agree = record { value = w.value; end = w.end; is = w.is; holds = (refl, is) } };
      means = subst (StandsFor s) (sym is) (accepted_stands s (λ i. (c.type_inv.file i).fits) w.value w.end w.is);
    }

pub returns-in_err-layout : goal.returns-in_err-layout
returns-in_err-layout c =
    let p = err_from_is_err_and c.from_residual.result c.from_residual.ensures.1 in
    rw (p.1, p.2) (record { exact = record { agree = c.in_err-layout.ensures.exact.agree }; means = c.in_err-layout.ensures.means })
