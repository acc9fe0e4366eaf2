-- What `write` answers and leaves in the buffer.
use Rattle.std.specs.Prelude.{◌≡◌, ℕ, cond, List, [], ◌++◌, length, drop, Ok, Err, Result, nat_le}
use Rattle.scan.specs.declared.refusal.Fault.{Fault}
use Rattle.scan.specs.declared.refusal.Fault.TheVariants.{Buffer}
use Rattle.scan.specs.Scan.{Out, good, bad}
use Rattle.clash.specs.Rules.{ClashRule}
use Rattle.system.specs.System.{System}
use Rattle.system.specs.Scan.{answer}
use Rattle.system.specs.Verdict.{StandsFor}
use Rattle.model_text.specs.Models.{text}
use Rattle.model_text.specs.Formed.{ModelFormed, OneModel}
use Rattle.translation.specs.Translate.{model_of}

-- the text of a file under a rule; a refused file has none
abbrev pub text_by : ClashRule → Out System → List ℕ
text_by R (good S end) = text (model_of S R)
text_by R (bad f) = []

abbrev pub file_text : ClashRule → List ℕ → List ℕ
file_text R file = text_by R (answer file)

-- a text that fits stands in front of the buffer, and what follows it is as it was; one that does not fit changes nothing
pub record TextAnswered (t before after : List ℕ) (r : Result ℕ Fault) : Type 0 where
  pub answer : r ≡ cond (nat_le (length t) (length before)) (Ok (length t)) (Err (Buffer (length t)))
  pub bytes : after ≡ cond (nat_le (length t) (length before)) (t ++ drop (length t) before) before

-- a refused file is refused as the check refuses it, and changes nothing
pub record Refused (f : Fault) (before after : List ℕ) (r : Result ℕ Fault) : Type 0 where
  pub answer : r ≡ Err f
  pub bytes : after ≡ before

abbrev pub AnsweredBy : ClashRule → Out System → List ℕ → List ℕ → Result ℕ Fault → Type 0
AnsweredBy R (good S end) before after r = TextAnswered (text (model_of S R)) before after r
AnsweredBy R (bad f) before after r = Refused f before after r

pub record Answered (R : ClashRule) (file before after : List ℕ) (r : Result ℕ Fault) : Type 0 where
  pub by_file : AnsweredBy R (answer file) before after r

-- the text is that of the system that the file stands for; its model keeps every rule of the format, and no other model has this text
pub record SaysSystem (R : ClashRule) (file t : List ℕ) : Type 0 where
  pub system : System
  pub stands : StandsFor file system
  pub is : t ≡ text (model_of system R)
  pub formed : ModelFormed (model_of system R)
  pub only : OneModel (model_of system R)
