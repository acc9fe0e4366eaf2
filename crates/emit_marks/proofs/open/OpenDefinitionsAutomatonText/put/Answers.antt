use Rattle.std.proofs.Common.{arith}
use Rattle.std.proofs.lemmas.Grind.{common_steps}
use Rattle.model_text.specs.declared.words.Double.TheVariants.{Open}
use Rattle.model_text.specs.declared.words.Name.TheVariants as N
use Rattle.translation.specs.Cases.{openings}
use Rattle.emit.proofs.CaseTexts.{case_definition, entries_openings}
use Rattle.emit_marks.proofs.open.OpenDefinitionsAutomatonText.put.Goals as goal

pub returns-then-is_in : goal.returns-then-is_in
returns-then-is_in g c A h =
    let e = c.args.self.now.event in
    let k = c.args.automaton.now.number in
    let line = case_definition 1 (N.Two Open e k) 0 (openings e k A.transitions) _ (entries_openings e k A.transitions) in
    let sent = c.put_transitions.ensures k A.transitions h.rows in
    let alphabet = h.head.alphabet in
    rw line (grind (arith, common_steps))
