-- What a job works on, from its files.
use Rattle.std.specs.Prelude.{◌≡◌, ℕ, List, [], position, Option, None, Some, Result, Ok, Err}
use Rattle.std.specs.Option.{ok_or, option_map}
use Rattle.clr_net.specs.Net.{Net, has_name}
use Rattle.clear_core.specs.declared.event.Raise.{Raise}
use Rattle.clear_words.specs.declared.job.Job.{Job}
use Rattle.net_check.specs.Checks.{and_then, fault_unless}
use Rattle.net_check.specs.Record.{fault_at}
use Rattle.net_check.specs.declared.fault.Fault.{Fault}
use Rattle.net_check.specs.declared.fault.FileKind.{FileKind}
use Rattle.net_check.specs.declared.fault.FileKind.TheVariants as file
use Rattle.net_check.specs.declared.fault.FaultKind.TheVariants as fault
use Rattle.net_check.specs.declared.limits.Limits.{Limits}
use Rattle.net_csv.specs.Printing.{banks_text, debts_text}
use Rattle.net_csv.specs.Reading.{is_within_limit, network_within}
use Rattle.net_gen.specs.Generated.{generated}
use Rattle.raise_journal.specs.ReadJournal.{journal_within}
use Rattle.stress.specs.Reading.{scenarios_of}
use Rattle.stress.specs.declared.scenario.Scenario.{Scenario}
use Rattle.clear_load.specs.Sources.{source_of}
use Rattle.clear_load.specs.declared.source.Source.{Source}
use Rattle.clear_load.specs.declared.source.Source.TheVariants as source

-- the bytes of each file that is there
abbrev pub Files : Type 0
Files = List ℕ → Option (List ℕ)

-- what reading comes to: a value or the first fault, or nothing where a file is not there to be
-- read
abbrev pub Read : Type 0 → Type 0
Read A = Option (Result A Fault)

-- the next step, where this one found no fault
abbrev pub then_read : {A B : Type 0} → Read A → (A → Read B) → Read B
then_read None next = None
then_read (Some (Err f)) next = Some (Err f)
then_read (Some (Ok a)) next = next a

-- these bytes, or the fault of a file of this kind that is longer than it may be by these limits
abbrev pub in_size : Limits → FileKind → List ℕ → Result (List ℕ) Fault
in_size by k bytes =
    fault_unless (is_within_limit by k bytes) (fault_at k 0 fault.FileSize) (Ok bytes)

-- a file whole: where it is there, its size is looked at before anything else is done
abbrev pub whole : Limits → Files → FileKind → List ℕ → Read (List ℕ)
whole by files k name = option_map (in_size by k) (files name)

-- the banks file and then the debts file, both whole, by the limits of the job
abbrev pub both_whole : Files → Job → Read (List ℕ × List ℕ)
both_whole files job =
    then_read (whole job.limits files file.Banks job.banks) (λ banks.
    then_read (whole job.limits files file.Debts job.debts) (λ debts.
    Some (Ok (banks, debts))))

-- both, and then the third file, which is of this kind
abbrev pub all_whole : Files → Job → FileKind → Read ((List ℕ × List ℕ) × List ℕ)
all_whole files job k =
    then_read (both_whole files job) (λ both.
    then_read (whole job.limits files k job.third) (λ third. Some (Ok (both, third))))

-- what a job works on: a network, and scenarios, a journal or a bank of it, empty or 0 where the
-- job has none
pub record Input : Type 0 where
  pub net : Net
  pub scenarios : List Scenario
  pub journal : List Raise
  pub bank : ℕ

-- a network alone
abbrev pub alone : Net → Input
alone net = record { net = net; scenarios = []; journal = []; bank = 0 }

-- the network of both files by these limits, or their first fault
abbrev pub net_in : Limits → List ℕ × List ℕ → Result Net Fault
net_in by both = network_within by both.0 both.1

-- what is printed of a network is read back by these limits as that network
abbrev pub IsReadBack : Limits → Net → Type 0
IsReadBack by net = net_in by (banks_text net, debts_text net) ≡ Ok net

-- the bank of this name, or the fault that there is none
abbrev pub bank_called : List ℕ → Net → Result ℕ Fault
bank_called name net =
    ok_or (position (has_name name) net.banks) (fault_at file.Words 0 fault.UnknownBank)

-- the contents of both files by these limits, and of the third file or the name of a bank, in this
-- order
abbrev pub contents : Limits → List ℕ × List ℕ → Result Input Fault
contents by both = and_then (net_in by both) (λ net. Ok (alone net))

abbrev pub contents_with_scenarios : Limits → List ℕ × List ℕ → List ℕ → Result Input Fault
contents_with_scenarios by both third =
    and_then (net_in by both) (λ net.
    and_then (scenarios_of net third) (λ scenarios.
    Ok (record (alone net) { scenarios = scenarios })))

abbrev pub contents_with_journal : Limits → List ℕ × List ℕ → List ℕ → Result Input Fault
contents_with_journal by both third =
    and_then (net_in by both) (λ net.
    and_then (journal_within by net third) (λ journal.
    Ok (record (alone net) { journal = journal })))

abbrev pub contents_with_bank : Limits → List ℕ × List ℕ → List ℕ → Result Input Fault
contents_with_bank by both name =
    and_then (net_in by both) (λ net.
    and_then (bank_called name net) (λ bank.
    Ok (record (alone net) { bank = bank })))

-- what a job works on, by its source and its limits: each file whole, one after another, and then
-- the contents in the same order
abbrev pub reading_by : Source → Files → Job → Read Input
reading_by source.Files files job =
    then_read (both_whole files job) (λ both. Some (contents job.limits both))
reading_by source.FilesAndScenarios files job =
    then_read (all_whole files job file.Scenarios) (λ all.
    Some (contents_with_scenarios job.limits all.0 all.1))
reading_by source.FilesAndJournal files job =
    then_read (all_whole files job file.Journal) (λ all.
    Some (contents_with_journal job.limits all.0 all.1))
reading_by source.FilesAndBank files job =
    then_read (both_whole files job) (λ both.
    Some (contents_with_bank job.limits both job.bank))
reading_by source.Generated files job =
    Some (Ok (alone (generated job.seed job.size job.tries)))

-- what a job works on, or the first fault of its files
abbrev pub reading : Files → Job → Read Input
reading files job = reading_by (source_of job.task) files job
