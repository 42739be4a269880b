-- The limits by which files are read: on a network, on a journal, and on the bytes of each file.
use Rattle.std.specs.Prelude.{ℕ, ◌≤◌, List, length, codes, Option, Some, None, if◌then◌else◌}
use Rattle.std.specs.Str.{bytes_eq}
use Rattle.clr_net.specs.Net.{Net, units_owed}
use Rattle.clr_net.specs.declared.TheConstants.{MAX_BANKS, MAX_DEBTS, MAX_OWED}
use Rattle.net_check.specs.declared.TheConstants.{MAX_FILE_BYTES, MAX_JOURNAL_BYTES, MAX_RAISES}
use Rattle.net_check.specs.declared.TheConstants.{MAX_SCENARIOS_BYTES}
use Rattle.net_check.specs.declared.fault.FileKind.{FileKind}
use Rattle.net_check.specs.declared.fault.FileKind.TheVariants as file
use Rattle.net_check.specs.declared.limits.Limits.{Limits}
use Rattle.net_check.specs.declared.limits.Limits.TheVariants as limits

-- the limits that a word names
abbrev pub limits_named : List ℕ → Option Limits
limits_named word =
    if bytes_eq word (codes "standard") then Some limits.Standard
    else if bytes_eq word (codes "wide") then Some limits.Wide
    else None

-- the most banks
abbrev pub most_banks : Limits → ℕ
most_banks limits.Standard = 1000
most_banks limits.Wide = MAX_BANKS

-- the most debts
abbrev pub most_debts : Limits → ℕ
most_debts limits.Standard = 20000
most_debts limits.Wide = MAX_DEBTS

-- the most units of all claims together
abbrev pub most_owed : Limits → ℕ
most_owed limits.Standard = 10000000
most_owed limits.Wide = MAX_OWED

-- the most raises of a journal
abbrev pub most_raises : Limits → ℕ
most_raises limits.Standard = 10000000
most_raises limits.Wide = MAX_RAISES

-- the most bytes of a file of banks or of debts
abbrev pub most_bytes : Limits → ℕ
most_bytes limits.Standard = 8388608
most_bytes limits.Wide = MAX_FILE_BYTES

-- the most bytes of a file with a journal
abbrev pub most_journal_bytes : Limits → ℕ
most_journal_bytes limits.Standard = 1600000000
most_journal_bytes limits.Wide = MAX_JOURNAL_BYTES

-- the most bytes of a file. The words of a command line are no file
abbrev pub file_limit : Limits → FileKind → ℕ
file_limit by file.Banks = most_bytes by
file_limit by file.Debts = most_bytes by
file_limit by file.Scenarios = MAX_SCENARIOS_BYTES
file_limit by file.Journal = most_journal_bytes by
file_limit by file.Words = 0

-- a network with no more banks, debts and units owed than these limits allow
pub record IsWithin (by : Limits) (net : Net) : Type 0 where
  pub banks : length net.banks ≤ most_banks by
  pub debts : length net.debts ≤ most_debts by
  pub owed : units_owed net ≤ most_owed by
