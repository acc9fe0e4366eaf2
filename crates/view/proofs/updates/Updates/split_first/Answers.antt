use mathlib.Core.Logic.{∥∥₁_map}
use Rattle.view.proofs.Many.{none_left, front_left}
use Rattle.view.proofs.UpdateParts.{update-standing}
use Rattle.view.proofs.updates.Updates.split_first.Goals as goal

pub returns-then-self-eq0-clause-first : goal.returns-then-self-eq0-clause-first
returns-then-self-eq0-clause-first c us h = none_left us h c.if-self-eq0.true

pub update_end-requires : goal.update_end-requires
update_end-requires c = update-standing _ _ _ c.args.self.now.stand c.if-self-eq0.false

pub invariant_of-rest : goal.invariant_of-rest
invariant_of-rest c = record {
  stand = ∥∥₁_map c.args.self.now.stand (λ w. let f = front_left w.0 w.1 c.if-self-eq0.false in (f.tail, f.rest _ (c.update_end.ensures _ f.first)));
}

pub update_at-requires : goal.update_at-requires
update_at-requires c = update-standing _ _ _ c.args.self.now.stand c.if-self-eq0.false

pub returns-clause-first : goal.returns-clause-first
returns-clause-first c us h =
    let f = front_left us h c.if-self-eq0.false in
    record { head = f.head; tail = f.tail; are = f.are; first = c.update_at.ensures _ f.first; rest = f.rest _ (c.update_end.ensures _ f.first) }
