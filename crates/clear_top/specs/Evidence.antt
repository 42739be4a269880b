-- The journal that clearing shows, as evidence: saved, read again and replayed.
use Rattle.std.specs.Prelude.{◌≡◌, ℕ, List, length, Some, Ok}
use Rattle.clr_net.specs.Net.{Net}
use Rattle.clear_core.specs.Clearing.{least}
use Rattle.clear_report.specs.Journals.{lawful_and_payments}
use Rattle.clear_words.specs.declared.job.Job.{Job}
use Rattle.clear_words.specs.declared.show.Show.TheVariants as show
use Rattle.clear_words.specs.declared.task.Task.TheVariants as task
use Rattle.pay_words.specs.Sealed.{Sealed}
use Rattle.clear_top.specs.Meaning.{IsPlain, Means}
use Rattle.clear_load.specs.Reading.{Files, alone, reading}
use Rattle.clear_top.specs.Outcome.{Outcome}

-- the job clears, and shows the journal alone
abbrev pub ShowsJournal : Job → Type 0
ShowsJournal job = (job.task ≡ task.Clear) × (job.show ≡ show.Journal)

-- the second job replays a file of this text, with the two files and the limits of the first
abbrev pub ReplaysText : Files → Job → Files → Job → List ℕ → Type 0
ReplaysText files job later again text =
    (again.task ≡ task.Replay) × (again.limits ≡ job.limits)
    × (later again.banks ≡ files job.banks) × (later again.debts ≡ files job.debts)
    × (later again.third ≡ Some text)

-- what the first job showed is read by the second as the journal of the record, and there is one
-- answer to it: that it is lawful, how many raises it has, and the least payments
pub record IsEvidence (files : Files) (job : Job) (o : Outcome) (later : Files) (again : Job)
    : Type 0 where
  pub net : Net
  pub sealed : Sealed
  pub cleared : reading files job ≡ Some (Ok (alone net))
  pub record_is : o.sealed ≡ Some sealed
  pub read : reading later again ≡ Some (Ok (record (alone net) { journal = sealed.journal }))
  pub replayed : (p : Outcome) → Means later again p
      → IsPlain (lawful_and_payments net (length sealed.journal) (least net)) p
