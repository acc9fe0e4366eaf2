use Rattle.std.proofs.Common.{rules}
use Rattle.words.proofs.Lettered.{next_open}
use Rattle.words.proofs.names.read_next_name.Goals as goal

pub returns-in_err-expect : goal.returns-in_err-expect
returns-in_err-expect c = rw c.from_residual-in_err-expect.ensures (next_open _ _ _ _ c.in_ok-letter.ensures (search rules))
