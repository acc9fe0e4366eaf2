use Rattle.std.proofs.Common.{length, ap, ◌∙◌}
use Rattle.std.proofs.lemmas.List.{length-map}
use Rattle.system.specs.Encode.{mark_byte}
use Rattle.system.proofs.HeadParts.{head_parts, alphabet_part}
use Rattle.view.proofs.HeadShown.{role_shown, marks_shown}
use Rattle.view.proofs.look.head_at.Goals as goal

pub returns : goal.returns
returns c A h = record {
  role = c.from.ensures ∙ role_shown _ _ A h;
  start = (head_parts _ _ A h).start;
  locations = ap length (marks_shown _ _ A h) ∙ length-map A.marks mark_byte;
  marks = marks_shown _ _ A h;
  alphabet = alphabet_part _ _ A h;
}
