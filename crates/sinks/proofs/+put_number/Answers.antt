use Rattle.std.proofs.Common.{rules}
use Rattle.sinks.proofs.Folds.{number_one, number_more}
use Rattle.sinks.proofs.+put_number.Goals as goal
use Rattle.sinks.proofs.+put_number.Goals.{then-n-ge10, else-n-ge10}

pub returns : goal.returns
returns g t c =
    elim c.if-n-ge10.branch [
      | then-n-ge10 w ↦ let e = number_more g.S.Sink.step c.args.s.now c.args.n w.if-n-ge10.true (search rules) in cc
      | else-n-ge10 w ↦ let e = number_one g.S.Sink.step c.args.s.now c.args.n w.if-n-ge10.false in cc
    ]
