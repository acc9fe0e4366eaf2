use Rattle.std.proofs.Common.{◌≡◌, ℕ, ◌-◌, Bool, length, refl, ◌∙◌, rules, tests, arith}
use Rattle.std.proofs.lemmas.Iterator.{YieldsList-from_range}
use Rattle.std.proofs.lemmas.Iterator.Search.{any_from_yields_List}
use Rattle.view.specs.Shown.{system_of}
use Rattle.view.proofs.Systems.{viewed}
use Rattle.translation.specs.Systems.{automaton}
use Rattle.emit_marks.specs.Roles.{is_with}
use Rattle.emit_marks.proofs.AnyBelow.{any_in_range}
use Rattle.emit_marks.proofs.controlled.any_with.Goals as goal

pub returns : goal.returns
returns c =
    let S = system_of c.args.view.now in
    let test : ℕ → Bool = λ k. is_with c.args.role c.args.e (automaton S k) in
    let long : c.args.view.now.layout.automata - 0 ≡ length S.automata = omega (arith, (viewed c.args.view.now).automata) in
    any_from_yields_List test _ _ _ c.any.ensures.ran (YieldsList-from_range 0 c.args.view.now.layout.automata (length S.automata) refl long) (λ x b q k. search (rules, tests))
    ∙ any_in_range test (length S.automata)
