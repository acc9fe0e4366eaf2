use Rattle.std.proofs.Common.{◌∙◌, arith}
use Rattle.view.proofs.FileParts.{kind_stands, kind_shown}
use Rattle.view.proofs.Systems.{viewed}
use Rattle.system.specs.declared.kinds.EventKind.TheVariants.{Controllable}
use Rattle.view.proofs.view.View.event.Goals as goal

pub bounds-self-e : goal.bounds-self-e
bounds-self-e c = (kind_stands _ _ _ (viewed c.args.self.now) _ Controllable c.if-e-self.false).0

pub returns-then-e-self : goal.returns-then-e-self
returns-then-e-self c = record { is = omega (arith, (viewed c.args.self.now).events) }

pub returns : goal.returns
returns c =
    let h = viewed c.args.self.now in
    record { is = (omega (arith, h.events, c.if-e-self.false), λ d. c.from.ensures ∙ kind_shown _ _ _ h _ d c.if-e-self.false) }
