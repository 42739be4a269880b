-- What a journal file means beside a network: its raises, or the first fault.
use Rattle.std.specs.Prelude.{ℕ, ◌==◌, ◌&&◌, nat_lt, Bool, false, if◌then◌else◌}
use Rattle.std.specs.Prelude.{List, [], ◌∷◌, ◌++◌, length, codes, position, Result, Ok, Err}
use Rattle.std.specs.Option.{ok_or, is_some}
use Rattle.std.specs.Str.{bytes_eq}
use Rattle.clr_net.specs.Net.{Net, is_debt_of}
use Rattle.clr_net.specs.declared.TheConstants.{MAX_CLAIM}
use Rattle.net_check.specs.Checks.{and_then, fault_unless}
use Rattle.net_check.specs.Field.{number_in, class_in}
use Rattle.net_check.specs.Within.{most_raises}
use Rattle.net_check.specs.Record.{bank_in, number_up_to, fault_at, in_row}
use Rattle.net_check.specs.declared.fault.Fault.{Fault}
use Rattle.net_check.specs.declared.fault.FileKind.TheVariants as file
use Rattle.net_check.specs.declared.fault.FaultKind.{FaultKind}
use Rattle.net_check.specs.declared.fault.FaultKind.TheVariants as fault
use Rattle.net_check.specs.declared.limits.Limits.{Limits}
use Rattle.net_check.specs.declared.limits.Limits.TheVariants as limits
use Rattle.net_csv.specs.Reading.{Fields, is_blank, is_within_limit, rows_in_file}
use Rattle.clear_core.specs.declared.event.Raise.{Raise}
use Rattle.raise_journal.specs.declared.TheConstants.{MAX_STAMP}
use Rattle.raise_journal.specs.Texts.{journal_header}

-- the raise of the fields stamp, debtor, creditor, class and to
abbrev pub raise_from : Net → Fields → Result Raise FaultKind
raise_from net (stamp ∷ debtor ∷ creditor ∷ class ∷ to ∷ []) =
    and_then (number_up_to MAX_STAMP stamp) (λ s.
    and_then (bank_in net debtor) (λ a.
    and_then (bank_in net creditor) (λ b.
    and_then (ok_or (class_in class) fault.Class) (λ c.
    and_then (ok_or (position (is_debt_of a b c) net.debts) fault.UnknownDebt) (λ x.
    and_then (number_up_to MAX_CLAIM to) (λ n.
    Ok (record { stamp = s; debt = record { 0 = x }; to = n })))))))
raise_from net fields = Err fault.Fields

-- the raise of a row, after so many raises, by these limits, or the fault of the row
abbrev pub raise_in_row : Limits → Net → ℕ → ℕ × Fields → Result Raise Fault
raise_in_row by net raises r =
    in_row file.Journal r.0
    (fault_unless (nat_lt raises (most_raises by)) fault.TooMany (raise_from net r.1))

-- a record that closes a journal, where it is the last: the word rounds, and a number
abbrev pub is_closing : Fields → Bool
is_closing (word ∷ number ∷ []) = bytes_eq word (codes "rounds") && is_some (number_in number)
is_closing fields = false

-- the raises of some rows, after those that are read already, or the first fault
unfoldable pub read_raises : Limits → Net → List Raise → List (ℕ × Fields)
    → Result (List Raise) Fault
read_raises by net done [] = Ok done
read_raises by net done (r ∷ rest) =
    if is_closing r.1 && (length rest == 0) then Ok done
    else and_then (raise_in_row by net (length done) r) (λ x.
    read_raises by net (done ++ x ∷ []) rest)

-- the raises so far with that of one record more, which closes nothing: a blank record has none
abbrev pub added : Limits → Net → List Raise → ℕ → Fields → Result (List Raise) Fault
added by net done row fields =
    if is_blank fields then Ok done
    else and_then (raise_in_row by net (length done) (row, fields)) (λ x. Ok (done ++ x ∷ []))

-- the fault of a closing record that is not the last, after so many raises
abbrev pub closed_early_at : Limits → ℕ → ℕ → Fault
closed_early_at by raises row =
    fault_at file.Journal row
    (if nat_lt raises (most_raises by) then fault.Fields else fault.TooMany)

-- the raises in a journal file of the allowed size, or the first fault
abbrev pub raises_in_file : Limits → Net → List ℕ → Result (List Raise) Fault
raises_in_file by net bytes =
    and_then (rows_in_file file.Journal journal_header bytes) (λ rows. read_raises by net [] rows)

-- the raises of a journal file by these limits, or its first fault
abbrev pub journal_within : Limits → Net → List ℕ → Result (List Raise) Fault
journal_within by net bytes =
    fault_unless (is_within_limit by file.Journal bytes) (fault_at file.Journal 0 fault.FileSize)
    (raises_in_file by net bytes)

-- the raises of a journal file by the standard limits
abbrev pub journal_of : Net → List ℕ → Result (List Raise) Fault
journal_of net bytes = journal_within limits.Standard net bytes
