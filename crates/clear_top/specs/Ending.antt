-- How a run ends, status by status, and what is seen of the outside in it.
use Rattle.std.specs.Prelude.{◌≡◌, ◌⊎◌, ℕ, List, Option, None, Some}
use Rattle.std.specs.Prelude.{Ok, Err}
use Rattle.std.specs.Borrow.{Bor}
use Rattle.clr_edge.specs.Taking.{SinkCall, TakesPart, TakesWhole}
use Rattle.clear_words.specs.Job.{job_of, the_words}
use Rattle.clear_words.specs.declared.job.Job.{Job}
use Rattle.pay_words.specs.Sealed.{Sealed}
use Rattle.clear_load.specs.Loading.{Gives, IsUnread, ShelfCall}
use Rattle.clear_load.specs.Reading.{Files, Input}
use Rattle.clear_top.specs.Meaning.{ComesTo}
use Rattle.clear_top.specs.Outcome.{Outcome}
use Rattle.clear_top.specs.declared.status.Ended.{Ended}
use Rattle.clear_top.specs.declared.status.Status.{Status}
use Rattle.clear_top.specs.declared.status.Status.TheVariants as status

-- the work on what the job's files give came to this
abbrev pub Works : Option Files → Job → Outcome → Type 0
Works files job o = (on : Input) × Gives files job (Ok on) × ComesTo job.task job on o

-- nothing was written, and there is no record
abbrev pub IsUntouched : SinkCall → Option Sealed → Type 0
IsUntouched sink sealed = (sink.new ≡ sink.old) × (sealed ≡ None)

-- an outcome of the work, with this status and record, whose text was written whole
abbrev pub IsWritten : Option Files → SinkCall → Job → Status → Option Sealed → Type 0
IsWritten files sink job ending sealed =
    (text : List ℕ) × Works files job (record { status = ending; sealed = sealed; text = text })
    × TakesWhole sink text

-- an outcome of the work, with this record, of whose text a part was written before the sink failed
abbrev pub IsPartWritten : Option Files → SinkCall → Job → Option Sealed → Type 0
IsPartWritten files sink job sealed =
    (ending : Status) × (text : List ℕ)
    × Works files job (record { status = ending; sealed = sealed; text = text })
    × TakesPart sink text

-- how the work on a job ends: a row for each status
abbrev pub JobEnds : ShelfCall → SinkCall → Job → Status → Option Sealed → Type 0
JobEnds shelf sink job status.Done sealed = IsWritten shelf.files sink job status.Done sealed
JobEnds shelf sink job (status.Unlawful v) sealed =
    IsWritten shelf.files sink job (status.Unlawful v) sealed
JobEnds shelf sink job status.WriteFault sealed = IsPartWritten shelf.files sink job sealed
JobEnds shelf sink job status.Usage sealed = ⊥
JobEnds shelf sink job (status.ReadFault k) sealed =
    IsUnread shelf job k × IsUntouched sink sealed
JobEnds shelf sink job (status.Refused f) sealed =
    Gives shelf.files job (Err f) × IsUntouched sink sealed
JobEnds shelf sink job status.Mem sealed = IsUntouched sink sealed

-- a usage fault, or want of memory
abbrev pub IsUsageOrMem : Status → Type 0
IsUsageOrMem ending = (ending ≡ status.Usage) ⊎ (ending ≡ status.Mem)

-- how a run ends, by the job that its words ask for
abbrev pub RunEnds : ShelfCall → SinkCall → Option Job → Ended → Type 0
RunEnds shelf sink None e = IsUsageOrMem e.status × IsUntouched sink e.sealed
RunEnds shelf sink (Some job) e = JobEnds shelf sink job e.status e.sealed

-- the job that the words of a call ask for
abbrev pub asked : List (Bor (List ℕ)) → Option Job
asked words = job_of (the_words words)

-- the statuses of a run that puts nothing into its sink
abbrev pub WritesNothing : Status → Type 0
WritesNothing status.Done = ⊥
WritesNothing (status.Unlawful v) = ⊥
WritesNothing status.Usage = Unit {0}
WritesNothing (status.ReadFault k) = Unit {0}
WritesNothing (status.Refused f) = Unit {0}
WritesNothing status.WriteFault = ⊥
WritesNothing status.Mem = Unit {0}
