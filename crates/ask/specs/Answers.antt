-- The line of an answer, and why a question has none.
use Rattle.std.specs.Prelude.{◌≡◌, ℕ, List, Some, None, codes, Option}
use Rattle.report.specs.Lines.{refused_line}
use Rattle.ask.specs.Words.{word_bytes}
use Rattle.ask.specs.declared.answer.Answer.{Answer}
use Rattle.ask.specs.declared.answer.Answer.TheVariants.{Accepted, Refused, Error}
use Rattle.ask.specs.declared.answer.Failure.{Failure}
use Rattle.ask.specs.declared.answer.Failure.TheVariants.{NoQuestion, Memory}

-- the words behind `error` are left open
abbrev pub answer_line : Answer → Option (List ℕ)
answer_line Accepted = Some (codes "ok")
answer_line (Refused fault) = Some (refused_line fault)
answer_line (Error mistake) = None

-- a word gives no bytes, unless there is no memory
abbrev pub NoBytes : List ℕ → Failure → Type 0
NoBytes word (NoQuestion mistake) = word_bytes word ≡ None
NoBytes word (Memory e) = Unit {0}
