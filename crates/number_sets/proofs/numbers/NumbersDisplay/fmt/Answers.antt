use Rattle.std.proofs.Common.{rules, ◌≡◌, true, [], ◌++◌, cond, codes, sym, refl, ap, ◌∙◌, arith}
use Rattle.std.proofs.lemmas.Grind.{put_two}
use Rattle.number_sets.specs.Text.{text, none_below, told_below}
use Rattle.number_sets.proofs.Told.{none_at_zero, told_at_zero, none_at_first, none_elsewhere, told_at_first, told_at_last, told_within, told_none}
use Rattle.number_sets.proofs.numbers.NumbersDisplay.fmt.Goals as goal
use Rattle.number_sets.proofs.numbers.NumbersDisplay.fmt.Goals.{then-begins+in_ok-write, then-empty, else-empty, else-begins+then-ends+in_ok-write-2, else-begins+else-ends}

pub loop-n-init : goal.loop-n-init
loop-n-init g c = record {
  empty = sym (none_at_zero _);
  written = rw told_at_zero (search rules);
}

pub loop-n-preserved : goal.loop-n-preserved
loop-n-preserved g c =
    let s = c.args.self.now in
    let n = c.loop-n.n-counter in
    record {
      empty = elim c.if-begins.branch [
        | then-begins+in_ok-write w ↦ w.empty-is ∙ sym (none_at_first s n (sym c.begins.ensures ∙ w.if-begins.true))
        | else-begins+then-ends+in_ok-write-2 w ↦ w.empty-is ∙ c.loop-n.invariant.empty ∙ sym (none_elsewhere s n (sym c.begins.ensures ∙ w.if-begins.false))
        | else-begins+else-ends w ↦ w.empty-is ∙ c.loop-n.invariant.empty ∙ sym (none_elsewhere s n (sym c.begins.ensures ∙ w.if-begins.false))
      ];
      written = λ p.
          let before = c.loop-n.invariant.written p in
          elim c.if-begins.branch [
            | then-begins+in_ok-write w ↦
                let comma : w.if-empty.separator.now ≡ cond (none_below s n) [] (codes ", ") =
                elim w.if-empty.branch [
                  | then-empty v ↦ rw (sym c.loop-n.invariant.empty ∙ v.if-empty.true) (ap (λ r. r.now) v.separator-is)
                  | else-empty v ↦ rw (sym c.loop-n.invariant.empty ∙ v.if-empty.false) (ap (λ r. r.now) v.separator-is)
                ] in
                rw w.f-is (put_two _ _ _ _ _ _ _ before (w.in_ok-write.ensures.writes before.plain (refl {a = true})) (told_at_first s n _ (sym c.begins.ensures ∙ w.if-begins.true) comma))
            | else-begins+then-ends+in_ok-write-2 w ↦
                rw w.f-is (put_two _ _ _ _ _ _ _ before (w.in_ok-write-2.ensures.writes before.plain (refl {a = true})) (told_at_last s n (sym c.begins.ensures ∙ w.if-begins.false) (sym w.ends.ensures ∙ w.if-ends.true)))
            | else-begins+else-ends w ↦
                rw (w.f-is, ← (told_within s n (sym c.begins.ensures ∙ w.if-begins.false) (sym w.ends.ensures ∙ w.if-ends.false))) before
          ];
    }

pub returns-then-empty-2-clause-writes : goal.returns-then-empty-2-clause-writes
returns-then-empty-2-clause-writes g c p ok =
    let s = c.args.self.now in
    let end : c.loop-n.n-counter ≡ 64 = omega arith in
    let bare : none_below s 64 ≡ true = sym (ap (none_below s) end) ∙ sym c.loop-n.invariant.empty ∙ c.if-empty-2.true in
    let before = c.loop-n.invariant.written p in
    let said : told_below s c.loop-n.n-counter ++ codes "none" ≡ text s =
    ap (λ t. t ++ codes "none") (ap (told_below s) end ∙ told_none s 64 bare)
    ∙ sym (ap (λ b. cond b (codes "none") (told_below s 64)) bare) in
    put_two _ _ _ _ _ _ _ before (c.write_str.ensures.writes before.plain ok) said
