use Rattle.std.proofs.Common.{◌/◌, ◌<◌, ◌≤◌, length, sym, arith, rules}
use Rattle.hexadecimal.proofs.Turns.{of_odd, read_none, read_more, read_wrong, read_all}
use Rattle.hexadecimal.proofs.bytes_of.Goals as goal

pub returns-in_default : goal.returns-in_default
returns-in_default c =
    let text = c.args.text.now in
    sym (of_odd (length text / 2) text (omega (arith, c.as_chunks.ensures.back_len)))

pub loop-high-init : goal.loop-high-init
loop-high-init c =
    let text = c.args.text.now in
    rw c.new-bytes.ensures.items (read_none text _ (length text / 2) (omega (arith, c.as_chunks.ensures.back_len)) c.as_chunks.ensures.front)

pub returns-in_default-pair : goal.returns-in_default-pair
returns-in_default-pair c =
    let within : c.loop-high.high-index < length c.as_chunks.result.0.now = omega arith in
    sym (read_wrong c.args.text.now _ _ _ c.loop-high.invariant within (search rules))

pub loop-high-preserved : goal.loop-high-preserved
loop-high-preserved c =
    let within : c.loop-high.high-index < length c.as_chunks.result.0.now = omega arith in
    let more = read_more c.args.text.now _ _ _ c.loop-high.invariant c.in-Some.b within (search rules) in
    rw c.in_ok-push.ensures.items more

pub returns : goal.returns
returns c =
    let end : length c.as_chunks.result.0.now ≤ c.loop-high.high-index = omega arith in
    sym (read_all c.args.text.now _ _ _ c.loop-high.invariant end)
