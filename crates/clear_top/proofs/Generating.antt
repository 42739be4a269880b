-- A network that is generated is of the numbers of its job, and of no file.
use Rattle.std.proofs.Common.{◌≡◌, ℕ, List, Option, None, Some, Ok, Err, sym, ap, ◌∙◌, subst, refl}
use Rattle.clear_words.specs.declared.job.Job.{Job}
use Rattle.clear_words.specs.declared.task.Task.TheVariants as task
use Rattle.net_check.specs.declared.fault.FileKind.{FileKind}
use Rattle.net_gen.specs.Generated.{generated}
use Rattle.pay_words.specs.Sealed.{Sealed}
use Rattle.clear_load.specs.Loading.{AreRead, Gives, ShelfCall}
use Rattle.clear_top.specs.Ending.{JobEnds, Works}
use Rattle.clear_top.specs.Laws.{BlamesNoFile, WritesText, WroteSummary}
use Rattle.clr_edge.specs.Taking.{SinkCall}
use Rattle.clear_top.specs.Meaning.{ComesTo, plan_of}
use Rattle.clear_top.specs.Reports.{summary_report}
use Rattle.clear_top.specs.Runs.{Settles}
use Rattle.clear_top.specs.Outcome.{Outcome}
use Rattle.clear_load.specs.Reading.{Files, Input, alone, reading, reading_by}
use Rattle.clear_load.specs.Sources.{name_by, name_in, source_of}
use Rattle.clear_top.specs.declared.status.Status.{Status}
use Rattle.clear_top.specs.declared.status.Status.TheVariants as status

module _ (files : Option Files) (job : Job) (is_gen : job.task ≡ task.Gen) where
  -- any files will do, as none
  no_files : Files
  no_files name = None

  -- a task that generates has read all its files, whichever they are
  any_read : AreRead (source_of job.task) files no_files
  any_read = subst (λ t. AreRead (source_of t) files no_files) (sym is_gen) tt

  -- what it reads is the network made from its numbers, with nothing beside it
  reads_alone : reading no_files job ≡ Some (Ok (alone (generated job.seed job.size job.tries)))
  reads_alone = subst (λ t. reading_by (source_of t) no_files job ≡ Some (Ok (alone (generated job.seed job.size job.tries))))
      (sym is_gen) refl

  -- no fault comes of it
  pub gives_no_fault : {f : _} → Gives files job (Err f) → ⊥
  gives_no_fault {f} gives = let both = sym (gives no_files any_read) ∙ reads_alone in cc

  -- what it is given is that network
  pub gives_generated : (on : Input) → Gives files job (Ok on) → on ≡ alone (generated job.seed job.size job.tries)
  gives_generated on gives = let both = sym (gives no_files any_read) ∙ reads_alone in cc

  -- its job names no file
  pub names_no_file : (k : FileKind) (name : List ℕ) → name_in job k ≡ Some name → ⊥
  names_no_file k name named =
      let none : name_in job k ≡ None = subst (λ t. name_by (source_of t) job k ≡ None) (sym is_gen) refl in
      let both : Some name ≡ None = sym named ∙ none in cc

  -- what the work comes to is a run on the generated network
  pub works_on_generated : (o : Outcome) → Works files job o
      → Settles (generated job.seed job.size job.tries) (plan_of job)
      (λ journal rounds. summary_report (generated job.seed job.size job.tries)) o
  works_on_generated o (on, gives, comes) =
      subst (λ net. Settles net (plan_of job) (λ journal rounds. summary_report net) o)
      (ap (λ (i : Input). i.net) (gives_generated on gives)) (subst (λ t. ComesTo t job on o) is_gen comes)

module _ (shelf : ShelfCall) (sink : SinkCall) (job : Job) (is_gen : job.task ≡ task.Gen) where
  -- what is written is of the network that the numbers make, and no file is at fault
  pub by_status : (s : Status) (sealed : Option Sealed) → JobEnds shelf sink job s sealed
      → BlamesNoFile s × (WritesText s → WroteSummary sink job (record { status = s; sealed = sealed }))
  by_status status.WriteFault sealed ends = (tt, λ is. absurd is)
  by_status status.Usage sealed ends = absurd ends
  by_status (status.ReadFault k) sealed ends =
      absurd (names_no_file shelf.files job is_gen k ends.0.0.0 ends.0.0.1)
  by_status (status.Refused f) sealed ends = absurd (gives_no_fault shelf.files job is_gen ends.0)
  by_status status.Mem sealed ends = (tt, λ is. absurd is)
  by_status s sealed (text, works, taken) =
      (tt, λ is. (text, works_on_generated shelf.files job is_gen _ works, taken))
