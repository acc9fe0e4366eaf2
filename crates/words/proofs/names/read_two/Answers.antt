use Rattle.model_text.specs.Words.{Stops}
use Rattle.words.specs.Parts.{twos}
use Rattle.words.proofs.Lettered.{two_bare, two_half, two_runs, a_two}
use Rattle.words.proofs.Stopping.{kept}
use Rattle.words.proofs.names.read_two.Goals as goal

pub returns-in_err-expect : goal.returns-in_err-expect
returns-in_err-expect c = rw c.from_residual-in_err-expect.ensures (two_bare _ _ _ c.in_ok-letter.ensures.cases.0 _ _ c.in_ok-n.ensures c.in_err-expect.ensures)

pub returns-in_err-m : goal.returns-in_err-m
returns-in_err-m c = rw c.from_residual-in_err-m.ensures (two_half _ _ _ c.in_ok-letter.ensures.cases.0 _ _ c.in_ok-n.ensures _ c.in_ok-expect.ensures c.in_err-m.ensures)

pub returns : goal.returns
returns c =
    let found = a_two _ _ _ c.in_ok-letter.ensures.cases.0 _ _ c.in_ok-n.ensures _ c.in_ok-expect.ensures _ _ c.in_ok-m.ensures _ c.in_ok-letter-2.ensures in
    let runs = two_runs _ _ _ c.in_ok-letter.ensures.cases.0 _ _ c.in_ok-n.ensures _ c.in_ok-expect.ensures _ _ c.in_ok-m.ensures in
    kept twos c.args.text.now _ (Stops c.in_ok-m.rest.now) _ _ c.then_some.ensures c.is_stopped.ensures found runs
