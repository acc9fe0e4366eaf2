use Rattle.system.proofs.VariableRows.{formed_fits}
use Rattle.view.proofs.VariableParts.{value-passed, variable-parts, same_variable}
use Rattle.view.proofs.look.range_at.Goals as goal

pub returns : goal.returns
returns c v formed h =
    let f = formed_fits v formed in
    let p = variable-parts _ _ v h in
    same_variable v _ _ _ _ _
    (value-passed _ _ f.0 (c.value_at.ensures _ f.0 p.low))
    (value-passed _ _ f.1 (c.value_at-2.ensures _ f.1 p.high))
    (value-passed _ _ f.2 (c.value_at-3.ensures _ f.2 p.start))
    (value-passed _ _ f.3 (c.value_at-4.ensures _ f.3 p.marked_low))
    (value-passed _ _ f.4 (c.value_at-5.ensures _ f.4 p.marked_high))
