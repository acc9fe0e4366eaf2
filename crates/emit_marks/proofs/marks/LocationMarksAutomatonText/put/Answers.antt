use Rattle.std.proofs.Common.{arith}
use Rattle.std.proofs.lemmas.Grind.{common_steps}
use Rattle.model_text.specs.declared.words.Single.TheVariants.{LocationMarked}
use Rattle.model_text.specs.declared.words.Name.TheVariants as N
use Rattle.translation.specs.Cases.{marked_at}
use Rattle.emit.proofs.CaseTexts.{case_definition, entries_marks}
use Rattle.emit_marks.proofs.marks.LocationMarksAutomatonText.put.Goals as goal

pub returns : goal.returns
returns g c A h =
    let k = c.args.automaton.now.number in
    let line = case_definition 1 (N.One LocationMarked k) 0 (marked_at k 0 A.marks) _ (entries_marks k A.marks) in
    let sent = c.put_locations.ensures A.marks h.head.marks in
    rw line (grind (arith, common_steps))
