-- Worked cases of what a job reads.
use Rattle.std.specs.Prelude.{◌≡◌, ℕ, false, List, codes, Option, None, Some, Ok}
use Rattle.std.specs.Prelude.{Err, refl, if◌then◌else◌}
use Rattle.std.specs.Str.{bytes_eq}
use Rattle.clr_net.specs.Samples.{chain}
use Rattle.clear_words.specs.Job.{on_both_files}
use Rattle.clear_words.specs.declared.job.Job.{Job}
use Rattle.clear_words.specs.declared.task.Task.TheVariants as task
use Rattle.net_check.specs.Record.{fault_at}
use Rattle.net_check.specs.declared.fault.FileKind.TheVariants as file
use Rattle.net_check.specs.declared.fault.FaultKind.TheVariants as fault
use Rattle.net_check.specs.declared.limits.Limits.TheVariants as limits
use Rattle.net_csv.specs.Reading.{is_within_limit}
use Rattle.net_csv.specs.Cases.{chain_banks, chain_debts, reading_on_literals}
use Rattle.clear_load.specs.Reading.{Files, alone, reading}

-- a job on the files b.csv and d.csv
abbrev pub on_files : Job
on_files = on_both_files task.Check (codes "b.csv") (codes "d.csv")

-- these banks in b.csv, and these debts in d.csv; either may be missing
abbrev two_files : Option (List ℕ) → Option (List ℕ) → Files
two_files banks debts name =
    if bytes_eq name (codes "b.csv") then banks
    else if bytes_eq name (codes "d.csv") then debts
    else None

pub chain_is_read :
    reading (two_files (Some chain_banks) (Some chain_debts)) on_files
    ≡ Some (Ok (alone chain))
unfolding reading_on_literals
chain_is_read = refl

-- a bank twice, before a number and a header that are none
abbrev banks_with_a_twice : List ℕ
banks_with_a_twice = codes "name,cash,rule\nA,7,order\nA,x,order\n"

pub first_fault_is_read :
    reading (two_files (Some banks_with_a_twice) (Some (codes "no header"))) on_files
    ≡ Some (Err (fault_at file.Banks 2 fault.DoubleBank))
unfolding reading_on_literals
first_fault_is_read = refl

-- where a file is not there, nothing is read, whatever is wrong with the other
pub unread_without_banks : reading (two_files None (Some (codes "no header"))) on_files ≡ None
unread_without_banks = refl

pub unread_without_debts : reading (two_files (Some (codes "no header")) None) on_files ≡ None
unread_without_debts = refl

-- but a banks file that is too long is refused before the debts file is looked for
pub long_banks_are_refused : (banks : List ℕ)
    → is_within_limit limits.Standard file.Banks banks ≡ false
    → reading (two_files (Some banks) None) on_files
    ≡ Some (Err (fault_at file.Banks 0 fault.FileSize))
long_banks_are_refused banks long = rw long refl
