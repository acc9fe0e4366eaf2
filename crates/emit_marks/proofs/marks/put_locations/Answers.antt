use Rattle.std.proofs.Common.{◌<◌, ◌≤◌, false, length, get_or, ap, ◌∙◌, arith}
use Rattle.std.proofs.lemmas.List.{length-map, get_or-map}
use Rattle.sinks.proofs.Folds.{each_turn, each_done}
use Rattle.system.specs.Encode.{mark_byte}
use Rattle.emit_marks.specs.Locations.{location_entry}
use Rattle.emit_marks.proofs.marks.put_locations.Goals as goal

pub loop-j-preserved : goal.loop-j-preserved
loop-j-preserved g c ms are =
    let j = c.loop-j.j in
    let under : j < length ms = omega (arith, ap length are ∙ length-map ms mark_byte, c.loop-j-test.true) in
    each_turn g.S.Sink.step (location_entry c.args.k) ms j _ c.loop-j.s _ false under (c.loop-j.invariant ms are)
    (c.put_location.ensures (get_or ms j false) (ap (λ bs. get_or bs j 0) are ∙ get_or-map mark_byte ms j false 0 under))

pub returns : goal.returns
returns g c ms are =
    let past : length ms ≤ c.loop-j.j = omega (arith, ap length are ∙ length-map ms mark_byte, c.loop-j-test.false) in
    each_done g.S.Sink.step (location_entry c.args.k) ms c.loop-j.j _ c.loop-j.s past (c.loop-j.invariant ms are)
