-- The lines of a text, and how each is printed.
use Rattle.std.specs.Prelude.{ℕ, List, ◌++◌, ℤ, codes, decimal}
use Rattle.std.specs.Fmt.{signed_decimal}
use Rattle.model_text.specs.declared.words.Name.{Name}
use Rattle.model_text.specs.declared.words.Heading.{Heading}
use Rattle.model_text.specs.declared.words.Heading.TheVariants.{Module, Inputs, State, Definitions}
use Rattle.model_text.specs.declared.words.Constraint.{Constraint}
use Rattle.model_text.specs.declared.words.Constraint.TheVariants.{Start, Step, Always, Reachable}
use Rattle.model_text.specs.Words.{name_text}
use Rattle.model_text.specs.Trees.{expr, Tree, print}

pub record Definition : Type 0 where
  pub name : Name
  pub body : Tree expr

pub data Line : Type 0 where
  rule : ℕ → Line
  heading : Heading → Line
  range : Name → ℤ → ℤ → Line
  define : Definition → Line
  constrain : Constraint → Tree expr → Line

abbrev pub heading_text : Heading → List ℕ
heading_text Module = codes "MODULE main"
heading_text Inputs = codes "IVAR"
heading_text State = codes "VAR"
heading_text Definitions = codes "DEFINE"

abbrev pub constraint_text : Constraint → List ℕ
constraint_text Start = codes "INIT "
constraint_text Step = codes "TRANS "
constraint_text Always = codes "SPEC AG "
constraint_text Reachable = codes "SPEC AG EF "

-- each line ends with a line feed
abbrev pub line_text : Line → List ℕ
line_text (rule n) = codes "-- rule " ++ (decimal n ++ codes "\n")
line_text (heading h) = heading_text h ++ codes "\n"
line_text (range x low high) = name_text x ++ (codes " : " ++ (signed_decimal low ++ (codes ".." ++ (signed_decimal high ++ codes ";\n"))))
line_text (define d) = name_text d.name ++ (codes " := " ++ (print d.body ++ codes ";\n"))
line_text (constrain c g) = constraint_text c ++ (print g ++ codes ";\n")
