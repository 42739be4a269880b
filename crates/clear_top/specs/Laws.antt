-- What the laws of `src/laws.rt` speak of beside how a run ends, in their order. What they say of
-- raises, of printed payments and of a journal as evidence stands in `Visited.antt`, `Printed.antt`
-- and `Evidence.antt`.
use Rattle.std.specs.Prelude.{◌≡◌, ◌≢◌, ◌⊎◌, ℕ, List, Option, None, Some}
use Rattle.std.specs.Prelude.{true, Ok}
use Rattle.clr_edge.specs.Sink.{WritesPart}
use Rattle.clr_edge.specs.Taking.{SinkCall, TakesWhole}
use Rattle.clear_words.specs.declared.job.Job.{Job}
use Rattle.clear_words.specs.declared.task.Task.TheVariants as task
use Rattle.net_check.specs.declared.fault.Fault.{Fault}
use Rattle.raise_journal.specs.Verdicts.{judged}
use Rattle.raise_journal.specs.declared.verdict.Verdict.{Verdict}
use Rattle.raise_journal.specs.declared.verdict.Verdict.TheVariants as verdict
use Rattle.net_gen.specs.Generated.{generated}
use Rattle.clear_load.specs.Reading.{Files, Input, reading}
use Rattle.clear_load.specs.Sources.{has_record}
use Rattle.clear_top.specs.Ending.{WritesNothing}
use Rattle.clear_top.specs.Meaning.{Means, plan_of}
use Rattle.clear_top.specs.Reports.{summary_report}
use Rattle.clear_top.specs.Runs.{Settles}
use Rattle.clear_top.specs.declared.status.Ended.{Ended}
use Rattle.clear_top.specs.declared.status.Status.{Status}
use Rattle.clear_top.specs.declared.status.Status.TheVariants as status

-- a refusal with this fault, or want of memory
abbrev pub IsRefusedOrMem : Fault → Status → Type 0
IsRefusedOrMem f ending = (ending ≡ status.Refused f) ⊎ (ending ≡ status.Mem)

-- the statuses of a text that was written whole
abbrev pub WritesText : Status → Type 0
WritesText status.Done = Unit {0}
WritesText (status.Unlawful v) = Unit {0}
WritesText status.Usage = ⊥
WritesText (status.ReadFault k) = ⊥
WritesText (status.Refused f) = ⊥
WritesText status.WriteFault = ⊥
WritesText status.Mem = ⊥

-- what the job comes to, with this status and record, was written whole
abbrev pub WasWritten : Files → SinkCall → Job → Ended → Type 0
WasWritten told sink job e =
    (text : List ℕ)
    × Means told job (record { status = e.status; sealed = e.sealed; text = text })
    × TakesWhole sink text

-- of what the job comes to, with this record, a part from its front was written
abbrev pub WasPartWritten : Files → SinkCall → Job → Ended → Type 0
WasPartWritten told sink job e =
    (ending : Status) × (text : List ℕ)
    × Means told job (record { status = ending; sealed = e.sealed; text = text })
    × WritesPart sink.old sink.new text

-- the words ask for a task with a record, and its text was written, whole or in part
abbrev pub AnswersRecord : Option Job → Status → Type 0
AnswersRecord None s = ⊥
AnswersRecord (Some job) s = (has_record job.task ≡ true) × ¬ (WritesNothing s)

-- no file is told to be at fault
abbrev pub BlamesNoFile : Status → Type 0
BlamesNoFile (status.ReadFault k) = ⊥
BlamesNoFile (status.Refused f) = ⊥
BlamesNoFile s = Unit {0}

-- the summary of the network that the numbers of a job make was written whole, after a run on that
-- network, whose record is answered
abbrev pub WroteSummary : SinkCall → Job → Ended → Type 0
WroteSummary sink job e =
    let net = generated job.seed job.size job.tries in
    (text : List ℕ)
    × Settles net (plan_of job) (λ journal rounds. summary_report net)
    (record { status = e.status; sealed = e.sealed; text = text })
    × TakesWhole sink text

-- the job's journal is read, and this is the verdict on it, which is not that it is lawful
abbrev pub IsFoundUnlawful : Files → Job → Verdict → Type 0
IsFoundUnlawful told job v =
    (on : Input) × (job.task ≡ task.Replay) × (reading told job ≡ Some (Ok on))
    × ((judged on.net on.journal).verdict ≡ v) × (v ≢ verdict.Lawful)
