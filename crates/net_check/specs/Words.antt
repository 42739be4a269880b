-- The word and the number of each kind of fault, and the word of each file.
use Rattle.std.specs.Prelude.{ℕ, List, codes}
use Rattle.net_check.specs.declared.fault.FileKind.{FileKind}
use Rattle.net_check.specs.declared.fault.FileKind.TheVariants as file
use Rattle.net_check.specs.declared.fault.FaultKind.{FaultKind}
use Rattle.net_check.specs.declared.fault.FaultKind.TheVariants as fault

-- the word by which a message names a file
abbrev pub file_word : FileKind → List ℕ
file_word file.Banks = codes "banks"
file_word file.Debts = codes "debts"
file_word file.Scenarios = codes "scenarios"
file_word file.Journal = codes "journal"
file_word file.Words = codes "words"

-- the word by which a message names a kind of fault
abbrev pub kind_word : FaultKind → List ℕ
kind_word fault.Header = codes "header"
kind_word fault.Fields = codes "fields"
kind_word fault.Name = codes "name"
kind_word fault.Number = codes "number"
kind_word fault.Rule = codes "rule"
kind_word fault.Limit = codes "limit"
kind_word fault.DoubleBank = codes "double bank"
kind_word fault.UnknownBank = codes "unknown bank"
kind_word fault.SelfDebt = codes "self debt"
kind_word fault.Class = codes "class"
kind_word fault.DoubleDebt = codes "double debt"
kind_word fault.TooMany = codes "too many"
kind_word fault.Total = codes "total"
kind_word fault.FileSize = codes "file size"
kind_word fault.UnknownDebt = codes "unknown debt"
kind_word fault.Toml = codes "toml"
kind_word fault.Shape = codes "shape"

-- the number of a kind of fault: 18 is not given again
abbrev pub kind_number : FaultKind → ℕ
kind_number fault.Header = 1
kind_number fault.Fields = 2
kind_number fault.Name = 3
kind_number fault.Number = 4
kind_number fault.Rule = 5
kind_number fault.Limit = 6
kind_number fault.DoubleBank = 7
kind_number fault.UnknownBank = 8
kind_number fault.SelfDebt = 9
kind_number fault.Class = 10
kind_number fault.DoubleDebt = 11
kind_number fault.TooMany = 12
kind_number fault.Total = 13
kind_number fault.FileSize = 14
kind_number fault.UnknownDebt = 15
kind_number fault.Toml = 16
kind_number fault.Shape = 17
