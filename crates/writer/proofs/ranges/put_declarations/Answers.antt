use Rattle.std.proofs.Common.{◌≡◌, pred, [], ◌∷◌, length, codes, decimal, fold, ap, ◌∙◌, arith}
use Rattle.view.specs.Shown.{system_of}
use Rattle.view.proofs.Systems.{viewed}
use Rattle.model_text.specs.Lists.{up_to}
use Rattle.translation.specs.Systems.{variable}
use Rattle.emit.specs.Texts.{choice_range, location_range, value_range, of_automata, of_variables}
use Rattle.emit.proofs.Sent.{sent}
use Rattle.writer.proofs.ranges.put_declarations.Goals as goal

pub returns : goal.returns
returns g c =
    let f = g.S.Sink.step in
    let R = g.R.Rule.rule in
    let S = system_of c.args.view.now in
    let h = viewed c.args.view.now in
    let last : c.saturating_sub.result ≡ pred (length S.kinds) = omega (arith, c.saturating_sub.ensures, h.events) in
    sent f c.args.s.now _
    (codes "-- rule " ∷ (decimal R.number ∷ (codes "\nMODULE main\nIVAR\nev : 0.." ∷ (decimal (pred (length S.kinds)) ∷ (codes ";\n" ∷ (of_automata S R choice_range ∷ (codes "VAR\n" ∷ (of_automata S R location_range ∷ (of_variables S R value_range ∷ [])))))))))
    (codes "DEFINE\n")
    (c.put_text.new.s, c.put_text.ensures, (c.put_number.new.s, c.put_number.ensures ∙ ap (λ n. fold f c.put_text.new.s (decimal n)) c.code.ensures, (c.put_text-2.new.s, c.put_text-2.ensures, (c.put_number-2.new.s, c.put_number-2.ensures ∙ ap (λ n. fold f c.put_text-2.new.s (decimal n)) last, (c.put_text-3.new.s, c.put_text-3.ensures, (c.put_automata.new.s, c.put_automata.ensures, (c.put_text-4.new.s, c.put_text-4.ensures, (c.put_automata-2.new.s, c.put_automata-2.ensures, (c.put_numbers.new.s, c.put_numbers.ensures ∙ ap (λ n. fold f c.put_automata-2.new.s (up_to n (λ i. value_range i (variable S i)))) h.variables, c.put_text-5.ensures)))))))))
