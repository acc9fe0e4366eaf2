use Rattle.std.proofs.Common.{[], ◌∷◌, length, codes, fold, ap, ◌∙◌}
use Rattle.view.specs.Shown.{system_of}
use Rattle.view.proofs.Systems.{viewed}
use Rattle.model_text.specs.Lists.{up_to}
use Rattle.translation.specs.Systems.{variable}
use Rattle.emit.specs.Texts.{start_text, value_start_text, leads_text, value_step_text, event_always_text, of_automata, of_variables}
use Rattle.emit.proofs.Sent.{sent}
use Rattle.writer.proofs.model.put_constraints.Goals as goal

pub returns : goal.returns
returns g c R =
    let f = g.S.Sink.step in
    let S = system_of c.args.view.now in
    let h = viewed c.args.view.now in
    sent f c.args.s.now _
    (of_automata S R start_text ∷ (of_variables S R value_start_text ∷ (of_automata S R leads_text ∷ (up_to (length S.variables) value_step_text ∷ (up_to (length S.kinds) (event_always_text S) ∷ [])))))
    (codes "SPEC AG EF (mk = 1);\n")
    (c.put_automata.new.s, c.put_automata.ensures, (c.put_numbers.new.s, c.put_numbers.ensures ∙ ap (λ n. fold f c.put_automata.new.s (up_to n (λ i. value_start_text i (variable S i)))) h.variables, (c.put_automata-2.new.s, c.put_automata-2.ensures, (c.put_numbers-2.new.s, c.put_numbers-2.ensures ∙ ap (λ n. fold f c.put_automata-2.new.s (up_to n value_step_text)) h.variables, (c.put_numbers-3.new.s, c.put_numbers-3.ensures ∙ ap (λ n. fold f c.put_numbers-2.new.s (up_to n (event_always_text S))) h.events, c.put_text.ensures)))))
