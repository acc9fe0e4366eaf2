use Rattle.system.proofs.HeadParts.{alphabet_part}
use Rattle.system.proofs.heads.Head.alphabet.Goals as goal

pub returns : goal.returns
returns c A h = alphabet_part _ _ A h
