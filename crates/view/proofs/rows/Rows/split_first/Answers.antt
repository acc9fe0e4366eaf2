use Rattle.std.proofs.Common.{◌∙◌}
use mathlib.Core.Logic.{∥∥₁_map}
use Rattle.view.proofs.Many.{none_left, front_left}
use Rattle.view.proofs.RowParts.{row_standing}
use Rattle.view.proofs.rows.Rows.split_first.Goals as goal

pub returns-then-self-eq0-clause-first : goal.returns-then-self-eq0-clause-first
returns-then-self-eq0-clause-first c rs h = none_left rs h c.if-self-eq0.true

pub row_at-row-requires : goal.row_at-row-requires
row_at-row-requires c = row_standing _ _ _ c.args.self.now.stand c.if-self-eq0.false

pub invariant_of-rest : goal.invariant_of-rest
invariant_of-rest c = record {
  stand =
      ∥∥₁_map c.args.self.now.stand (λ w.
      let f = front_left w.0 w.1 c.if-self-eq0.false in
      (f.tail, f.rest _ (c.end.ensures _ (c.row_at-row.ensures.shows _ f.first).updates ∙ c.row_at-row.ensures.last _ f.first)));
}

pub returns-clause-first : goal.returns-clause-first
returns-clause-first c rs h =
    let f = front_left rs h c.if-self-eq0.false in
    let shows = c.row_at-row.ensures.shows _ f.first in
    record { head = f.head; tail = f.tail; are = f.are; first = shows; rest = f.rest _ (c.end.ensures _ shows.updates ∙ c.row_at-row.ensures.last _ f.first) }
