-- What a file of banks and a file of debts mean together: a network, or the first fault.
use Rattle.std.specs.Prelude.{ℕ, ◌==◌, nat_le, nat_lt, not, Bool, List, [], ◌∷◌, length, map}
use Rattle.std.specs.Prelude.{filter, codes, Result, Ok, Err, if◌then◌else◌}
use Rattle.std.specs.List.{list_all, enumerate_from}
use Rattle.csv.specs.Reading.{records, default_config, strip_bom}
use Rattle.clr_net.specs.Net.{Net, empty_net, with_bank, with_debt}
use Rattle.clr_net.specs.declared.bank.Bank.{Bank}
use Rattle.clr_net.specs.declared.debt.Debt.{Debt}
use Rattle.net_check.specs.Checks.{and_then, fault_unless}
use Rattle.net_check.specs.Field.{trimmed_field, are_words}
use Rattle.net_check.specs.Within.{file_limit, most_banks, most_debts}
use Rattle.net_check.specs.Record.{bank_from, debt_from, fault_at, in_row}
use Rattle.net_check.specs.declared.fault.Fault.{Fault}
use Rattle.net_check.specs.declared.fault.FileKind.{FileKind}
use Rattle.net_check.specs.declared.fault.FileKind.TheVariants as file
use Rattle.net_check.specs.declared.fault.FaultKind.TheVariants as fault
use Rattle.net_check.specs.declared.limits.Limits.{Limits}
use Rattle.net_check.specs.declared.limits.Limits.TheVariants as limits
use Rattle.net_csv.specs.declared.layout.Layout.{Layout}
use Rattle.net_csv.specs.declared.layout.Layout.TheVariants as layout
use Rattle.net_csv.specs.declared.layout.Version.{Version}
use Rattle.net_csv.specs.declared.layout.Version.TheVariants as version

-- the fields of a record
abbrev pub Fields : Type 0
Fields = List (List ℕ)

-- the fields of a record, each without the spaces and tabs at its ends
abbrev pub trimmed_fields : Fields → Fields
trimmed_fields fields = map trimmed_field fields

-- the records of a file, after one byte order mark, each field without the spaces and tabs at its
-- ends. A line with no byte is no record
abbrev pub records_of : List ℕ → List Fields
records_of bytes = map trimmed_fields (records default_config (strip_bom bytes))

-- a blank record: each of its fields is empty
abbrev pub is_blank : Fields → Bool
is_blank fields = list_all (λ field. length field == 0) fields

-- the records that are not blank, each with its row: the first record is of this row, and blank
-- ones count
abbrev pub rows_from : ℕ → List Fields → List (ℕ × Fields)
rows_from row below = filter (λ r. not (is_blank r.1)) (enumerate_from row below)

-- the rows below a header, which is row 0
abbrev pub rows_of : List Fields → List (ℕ × Fields)
rows_of below = rows_from 1 below

-- the header of a banks file: what banks owe outside the network came with version 2
abbrev pub banks_header : Version → Fields
banks_header version.One = codes "name" ∷ codes "cash" ∷ codes "rule" ∷ []
banks_header version.Two = codes "name" ∷ codes "cash" ∷ codes "rule" ∷ codes "outside" ∷ []

abbrev pub debts_header : Fields
debts_header = codes "debtor" ∷ codes "creditor" ∷ codes "class" ∷ codes "claim" ∷ []

-- the header of a file
abbrev pub header : Layout → Fields
header (layout.Banks v) = banks_header v
header layout.Debts = debts_header

-- the kind of a file
abbrev pub file_of : Layout → FileKind
file_of (layout.Banks v) = file.Banks
file_of layout.Debts = file.Debts

-- the bank of a row, which has as many fields as the header and may be added to a network by these
-- limits, or the fault of the row
abbrev pub bank_in_row : Limits → Version → Net → ℕ × Fields → Result Bank Fault
bank_in_row by v net r = in_row file.Banks r.0 (
    fault_unless (nat_lt (length net.banks) (most_banks by)) fault.TooMany (
    fault_unless (length r.1 == length (banks_header v)) fault.Fields (
    bank_from net r.1)))

-- the debt of a row, which may be added to a network by these limits, or the fault of the row
abbrev pub debt_in_row : Limits → Net → ℕ × Fields → Result Debt Fault
debt_in_row by net r = in_row file.Debts r.0 (
    fault_unless (nat_lt (length net.debts) (most_debts by)) fault.TooMany (
    debt_from by net r.1))

-- the network with the bank or the debt of a row, or the fault of the row
abbrev pub with_row : Limits → Layout → Net → ℕ × Fields → Result Net Fault
with_row by (layout.Banks v) net r =
    and_then (bank_in_row by v net r) (λ b. Ok (with_bank net b))
with_row by layout.Debts net r = and_then (debt_in_row by net r) (λ d. Ok (with_debt net d))

-- the network with the banks or the debts of some rows, one after the other, or the first fault
unfoldable pub read_rows : Limits → Layout → Net → List (ℕ × Fields) → Result Net Fault
read_rows by l net [] = Ok net
read_rows by l net (r ∷ rest) =
    and_then (with_row by l net r) (λ next. read_rows by l next rest)

-- the records below the header, which is the first record
abbrev pub below_header : FileKind → Fields → List Fields → Result (List Fields) Fault
below_header f header [] = Err (fault_at f 0 fault.Header)
below_header f header (fields ∷ below) =
    fault_unless (are_words header fields) (fault_at f 0 fault.Header) (Ok below)

-- the rows of a file
abbrev pub rows_in_file : FileKind → Fields → List ℕ → Result (List (ℕ × Fields)) Fault
rows_in_file f header bytes =
    and_then (below_header f header (records_of bytes)) (λ below. Ok (rows_of below))

-- the network with the banks or the debts of a file, or the first fault of the file
abbrev pub with_file : Limits → Layout → List ℕ → Net → Result Net Fault
with_file by l bytes net =
    and_then (rows_in_file (file_of l) (header l) bytes) (λ rows. read_rows by l net rows)

-- the version of a banks file: the second where its first record is that header, and otherwise the
-- first
abbrev pub version_of : List Fields → Version
version_of [] = version.One
version_of (first ∷ below) =
    if are_words (banks_header version.Two) first then version.Two else version.One

-- the network with the banks of a file, or the first fault of the file
abbrev pub with_banks_of : Limits → List ℕ → Net → Result Net Fault
with_banks_of by bytes net =
    with_file by (layout.Banks (version_of (records_of bytes))) bytes net

-- the network with the debts of a file, or the first fault of the file
abbrev pub with_debts_of : Limits → List ℕ → Net → Result Net Fault
with_debts_of by bytes net = with_file by layout.Debts bytes net

-- whether a file is within the limit of its kind
abbrev pub is_within_limit : Limits → FileKind → List ℕ → Bool
is_within_limit by f bytes = nat_le (length bytes) (file_limit by f)

-- the network that two files give by these limits, or their first fault: both sizes are checked
-- first, and then all of the banks
abbrev pub network_within : Limits → List ℕ → List ℕ → Result Net Fault
network_within by banks debts =
    fault_unless (is_within_limit by file.Banks banks) (fault_at file.Banks 0 fault.FileSize) (
    fault_unless (is_within_limit by file.Debts debts) (fault_at file.Debts 0 fault.FileSize) (
    and_then (with_banks_of by banks empty_net) (λ net. with_debts_of by debts net)))

-- the network that they give by the standard limits
abbrev pub network_of : List ℕ → List ℕ → Result Net Fault
network_of banks debts = network_within limits.Standard banks debts
