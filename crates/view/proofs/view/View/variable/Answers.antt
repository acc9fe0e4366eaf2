use Rattle.std.proofs.Common.{arith}
use Rattle.view.proofs.FileParts.{variable_within, variable_stands, variable_formed}
use Rattle.view.proofs.Systems.{viewed}
use Rattle.view.proofs.view.View.variable.Goals as goal

pub range_at-requires : goal.range_at-requires
range_at-requires c = variable_within _ _ _ (viewed c.args.self.now) _ c.if-i-self.false

pub returns-then-i-self : goal.returns-then-i-self
returns-then-i-self c = record { is = omega (arith, (viewed c.args.self.now).variables) }

pub returns : goal.returns
returns c =
    let h = viewed c.args.self.now in
    record {
      is = (
        omega (arith, h.variables, c.if-i-self.false),
        λ d. c.range_at.ensures _ (variable_formed _ _ _ h _ d c.if-i-self.false) (variable_stands _ _ _ h _ d c.if-i-self.false),
      );
    }
