use Rattle.std.proofs.Common.{arith}
use Rattle.view.proofs.FileParts.{few_heads, row_fits, head_stands}
use Rattle.view.proofs.Systems.{viewed}
use Rattle.view.proofs.view.View.automaton.Goals as goal

pub bounds-self-k : goal.bounds-self-k
bounds-self-k c = omega (arith, few_heads _ _ _ (viewed c.args.self.now), c.if-k-self.false)

pub head_at-requires : goal.head_at-requires
head_at-requires c = row_fits _ _ _ (viewed c.args.self.now) _ c.if-k-self.false

pub returns-then-k-self : goal.returns-then-k-self
returns-then-k-self c = record { is = omega (arith, (viewed c.args.self.now).automata) }

pub returns : goal.returns
returns c =
    let h = viewed c.args.self.now in
    record { is = (omega (arith, h.automata, c.if-k-self.false), λ d. c.head_at.ensures _ (head_stands _ _ _ h _ d c.if-k-self.false)) }
