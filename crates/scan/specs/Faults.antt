-- Refusals: the number of each case, and the values that it carries.
use Rattle.std.specs.Prelude.{ℕ, List, [], ◌∷◌}
use Rattle.scan.specs.declared.refusal.Section.{Section}
use Rattle.scan.specs.declared.refusal.Section.TheVariants.{Events, Variables, Automata, Transitions}
use Rattle.scan.specs.declared.refusal.Origin.{Origin}
use Rattle.scan.specs.declared.refusal.Fault.{Fault}
use Rattle.scan.specs.declared.refusal.Fault.TheVariants.{File, Buffer}
use Rattle.scan.specs.declared.refusal.FileFault.{FileFault}
use Rattle.scan.specs.declared.refusal.FileFault.TheVariants.{EndsTooSoon, BytesFollow, Breaks}
use Rattle.scan.specs.declared.refusal.FileRule.{FileRule}
use Rattle.scan.specs.declared.refusal.FileRule.TheVariants.{CountLimits, ZeroOrOne, VariableValues, KnownNumber, RisingOrder, InAlphabet, Expression}

abbrev pub section_number : Section → ℕ
section_number Events = 1
section_number Variables = 2
section_number Automata = 3
section_number Transitions = 4

abbrev pub rule_number : FileRule → ℕ
rule_number CountLimits = 3
rule_number ZeroOrOne = 4
rule_number VariableValues = 5
rule_number KnownNumber = 6
rule_number RisingOrder = 7
rule_number InAlphabet = 8
rule_number Expression = 9

abbrev pub file_number : FileFault → ℕ
file_number EndsTooSoon = 1
file_number BytesFollow = 2
file_number (Breaks rule) = rule_number rule

-- a refusal's number
abbrev pub number : Fault → ℕ
number (File wrong place) = file_number wrong
number (Buffer needed) = 10

-- what a refusal carries: of a file, section, row and byte; of a buffer, the length needed
abbrev pub carried : Fault → List ℕ
carried (File wrong place) = section_number place.section ∷ (place.row ∷ (place.byte ∷ []))
carried (Buffer needed) = needed ∷ []

-- the refusal at a byte of a section's row
abbrev pub fault_at : FileFault → Origin → ℕ → Fault
fault_at wrong o byte = File wrong (record { section = o.section; row = o.row; byte = byte })
