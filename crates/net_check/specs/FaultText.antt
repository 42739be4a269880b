-- What is said of a fault.
use Rattle.std.specs.Prelude.{ℕ, List, [], ◌∷◌, codes}
use Rattle.std.specs.List.{concat}
use Rattle.std.specs.Fmt.{decimal}
use Rattle.net_check.specs.declared.fault.Fault.{Fault}
use Rattle.net_check.specs.declared.fault.FaultKind.{FaultKind}
use Rattle.net_check.specs.declared.fault.ReadNet.{ReadNet}
use Rattle.net_check.specs.declared.fault.ReadNet.TheVariants as read
use Rattle.net_check.specs.Words.{file_word, kind_word, kind_number}

-- what is wrong: its word, and its number in brackets
abbrev pub kind_text : FaultKind → List ℕ
kind_text kind =
    concat (kind_word kind ∷ codes " (" ∷ decimal (kind_number kind) ∷ codes ")" ∷ [])

-- where it is, and what is wrong there
abbrev pub fault_text : Fault → List ℕ
fault_text fault = concat (
    file_word fault.file ∷ codes " row " ∷ decimal fault.row ∷ codes ": "
    ∷ kind_text fault.kind ∷ [])

-- why files are not read
abbrev pub read_net_text : ReadNet → List ℕ
read_net_text (read.Refused fault) = fault_text fault
read_net_text read.Mem = codes "out of memory"
