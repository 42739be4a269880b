-- How a run ends whose work came to something.
use Rattle.std.proofs.Common.{ℕ, List, Option, Ok, inl, inr}
use Rattle.clr_net.specs.Net.{Net}
use Rattle.clear_core.specs.declared.event.Raise.{Raise}
use Rattle.clear_words.specs.declared.job.Job.{Job}
use Rattle.clear_words.specs.declared.task.Task.{Task}
use Rattle.pay_words.specs.Sealed.{Sealed}
use Rattle.raise_journal.specs.Verdicts.{judged}
use Rattle.raise_journal.specs.declared.verdict.Verdict.{Verdict}
use Rattle.raise_journal.specs.declared.verdict.Verdict.TheVariants as verdict
use Rattle.clear_load.specs.Loading.{Gives, ShelfCall}
use Rattle.clear_top.specs.Ending.{JobEnds, WritesNothing}
use Rattle.clear_top.specs.Laws.{WritesText}
use Rattle.clr_edge.specs.Taking.{SinkCall, TakesWhole}
use Rattle.clear_top.specs.Meaning.{ComesTo, answer_to}
use Rattle.clear_load.specs.Reading.{Input}
use Rattle.clear_top.specs.Outcome.{Outcome}
use Rattle.clear_top.proofs.Outcomes.{IsOfAKind, kind_of}
use Rattle.clear_top.specs.declared.status.Status.{Status}
use Rattle.clear_top.specs.declared.status.Status.TheVariants as status

-- the answer to a journal is printed, whatever the verdict
answer_writes : (net : Net) (rs : List Raise) (v : Verdict) → WritesText (answer_to net rs v).status
answer_writes net rs verdict.Lawful = tt
answer_writes net rs v = tt

-- an outcome of each kind is printed
kind_writes : (t : Task) (on : Input) (o : Outcome) → IsOfAKind t on o → WritesText o.status
kind_writes t on o (inl (none, done, no_record)) = rw done tt
kind_writes t on o (inr (inl (replays, is))) =
    rw is (answer_writes on.net on.journal (judged on.net on.journal).verdict)
kind_writes t on o (inr (inr (has, done, recorded))) = rw done tt

module _ (job : Job) (on : Input) where
  -- what work comes to is written
  writes : (s : Status) (sealed : Option Sealed) (text : List ℕ)
      → ComesTo job.task job on (record { status = s; sealed = sealed; text = text }) → WritesText s
  writes s sealed text comes = kind_writes job.task on _ (kind_of job.task job on _ comes)

  -- no work comes to a status at which nothing is written
  pub work_writes : (s : Status) (sealed : Option Sealed) (text : List ℕ)
      → ComesTo job.task job on (record { status = s; sealed = sealed; text = text }) → WritesNothing s → ⊥
  work_writes status.Done sealed text comes nothing = nothing
  work_writes (status.Unlawful v) sealed text comes nothing = nothing
  work_writes s sealed text comes nothing = writes s sealed text comes

  -- the text was written whole
  pub ends_whole : (shelf : ShelfCall) (sink : SinkCall) → Gives shelf.files job (Ok on)
      → (s : Status) (sealed : Option Sealed) (text : List ℕ)
      → ComesTo job.task job on (record { status = s; sealed = sealed; text = text })
      → TakesWhole sink text → JobEnds shelf sink job s sealed
  ends_whole shelf sink gives status.Done sealed text comes taken = (text, (on, gives, comes), taken)
  ends_whole shelf sink gives (status.Unlawful v) sealed text comes taken = (text, (on, gives, comes), taken)
  ends_whole shelf sink gives s sealed text comes taken = absurd (writes s sealed text comes)
