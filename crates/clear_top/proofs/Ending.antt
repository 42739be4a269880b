-- What follows from how a run ends.
use Rattle.std.proofs.Common.{◌≡◌, ◌≢◌, ◌⊎◌, ◌∙◌, Option, None, Some, Ok, Err, refl, sym}
use Rattle.std.proofs.Common.{inl, inr}
use Rattle.pay_words.specs.Sealed.{Sealed}
use Rattle.clear_words.specs.declared.job.Job.{Job}
use Rattle.net_check.specs.declared.fault.Fault.{Fault}
use Rattle.clear_top.specs.Ending.{IsUntouched, IsUsageOrMem, JobEnds, RunEnds, Works}
use Rattle.clear_top.specs.Laws.{IsRefusedOrMem, WasPartWritten, WasWritten, WritesText}
use Rattle.clear_load.specs.Loading.{NoneRose, OnFiles, ShelfCall}
use Rattle.clr_edge.specs.Taking.{SinkCall, SinkRose}
use Rattle.clear_top.specs.Meaning.{Means}
use Rattle.clear_load.specs.Reading.{Files, Input, reading}
use Rattle.clear_top.specs.Outcome.{Outcome}
use Rattle.clear_top.specs.declared.status.Ended.{Ended}
use Rattle.clear_top.specs.declared.status.Status.{Status}
use Rattle.clear_top.specs.declared.status.Status.TheVariants as status

-- what was worked out is what the job comes to
meant : (files : Option Files) (job : Job) (o : Outcome) → Works files job o
    → OnFiles files job (λ told. Means told job o)
meant files job o (on, gives, comes) told tells = (on, gives told tells, comes)

-- an ending, by its status and its record
abbrev ended : Status → Option Sealed → Ended
ended s sealed = record { status = s; sealed = sealed }

module _ (shelf : ShelfCall) (sink : SinkCall) where
  -- a usage fault comes exactly where there is no job, unless memory is wanting
  pub usage_by : (job : Option Job) (s : Status) (sealed : Option Sealed)
      → RunEnds shelf sink job (ended s sealed)
      → (s ≡ status.Usage → job ≡ None) × (job ≡ None → IsUsageOrMem s)
  usage_by None s sealed ends = (λ is_usage. refl, λ none. ends.0)
  usage_by (Some job) status.Usage sealed ends = absurd ends
  usage_by (Some job) s sealed ends = (λ is. absurd (cc), λ none. absurd (cc))

  -- where something else was written than a fault, the files have none
  no_fault : (job : Job) (told : Files) (on : Input) (f : Fault) → reading told job ≡ Some (Ok on)
      → reading told job ≡ Some (Err f) → ⊥
  no_fault job told on f fine faulty =
      let both : Some (Ok on) ≡ Some (Err f) = sym fine ∙ faulty in absurd (cc)

  -- a fault of the files is the one that is refused, where nothing outside fails
  pub refuses : (job : Job) (s : Status) (sealed : Option Sealed) (f : Fault)
      → JobEnds shelf sink job s sealed
      → OnFiles shelf.files job (λ told. reading told job ≡ Some (Err f) → NoneRose shelf job
      → IsRefusedOrMem f s)
  refuses job status.Usage sealed f ends told tells faulty none_rose = absurd ends
  refuses job (status.ReadFault k) sealed f ends told tells faulty none_rose =
      absurd (none_rose k ends.0.0)
  refuses job (status.Refused other) sealed f ends told tells faulty none_rose =
      let both : Some (Err other) ≡ Some (Err f) = sym (ends.0 told tells) ∙ faulty in
      let same : other ≡ f = cc in
      inl (cc)
  refuses job status.WriteFault sealed f (s, text, works, part) told tells faulty none_rose =
      absurd (no_fault job told works.0 f (works.1 told tells) faulty)
  refuses job status.Mem sealed f ends told tells faulty none_rose = inr refl
  refuses job s sealed f ends told tells faulty none_rose =
      absurd (no_fault job told ends.1.0 f (ends.1.1 told tells) faulty)

  -- what is written is what the job comes to, whole or in part
  pub written_by : (job : Job) (s : Status) (sealed : Option Sealed)
      → JobEnds shelf sink job s sealed
      → OnFiles shelf.files job (λ told. (WritesText s → WasWritten told sink job (ended s sealed))
      × (s ≡ status.WriteFault → WasPartWritten told sink job (ended s sealed)))
  written_by job status.Done sealed (text, works, taken) told tells =
      (λ is. (text, meant shelf.files job _ works told tells, taken), λ is. absurd (cc))
  written_by job (status.Unlawful v) sealed (text, works, taken) told tells =
      (λ is. (text, meant shelf.files job _ works told tells, taken), λ is. absurd (cc))
  written_by job status.WriteFault sealed (s, text, works, part) told tells =
      (λ is. absurd is, λ is. (s, text, meant shelf.files job _ works told tells, part.0))
  written_by job s sealed ends told tells = (λ is. absurd is, λ is. absurd (cc))

  -- what an accepted job comes to is written where nothing outside fails, or memory is wanting
  pub accepted_by : (job : Job) (s : Status) (sealed : Option Sealed) (on : Input)
      → JobEnds shelf sink job s sealed
      → OnFiles shelf.files job (λ told. reading told job ≡ Some (Ok on) → NoneRose shelf job
      → ¬ (SinkRose sink) → WasWritten told sink job (ended s sealed)
      ⊎ ((s ≡ status.Mem) × (sink.new ≡ sink.old)))
  accepted_by job status.Usage sealed on ends told tells fine none_rose no_rise = absurd ends
  accepted_by job (status.ReadFault k) sealed on ends told tells fine none_rose no_rise =
      absurd (none_rose k ends.0.0)
  accepted_by job (status.Refused f) sealed on ends told tells fine none_rose no_rise =
      absurd (no_fault job told on f fine (ends.0 told tells))
  accepted_by job status.WriteFault sealed on (s, text, works, part) told tells fine none_rose no_rise =
      absurd (no_rise part.1)
  accepted_by job status.Mem sealed on ends told tells fine none_rose no_rise = inr (refl, ends.0)
  accepted_by job s sealed on ends told tells fine none_rose no_rise =
      inl (ends.0, meant shelf.files job _ ends.1 told tells, ends.2)

  -- nothing is written but where a text is written whole or the sink failed
  pub untouched_by : (job : Option Job) (s : Status) (sealed : Option Sealed)
      → RunEnds shelf sink job (ended s sealed) → ¬ (WritesText s) → s ≢ status.WriteFault
      → IsUntouched sink sealed
  untouched_by None s sealed ends not_whole not_part = ends.1
  untouched_by (Some job) (status.ReadFault k) sealed ends not_whole not_part = ends.1
  untouched_by (Some job) (status.Refused f) sealed ends not_whole not_part = ends.1
  untouched_by (Some job) status.Usage sealed ends not_whole not_part = absurd ends
  untouched_by (Some job) status.WriteFault sealed ends not_whole not_part = absurd (not_part refl)
  untouched_by (Some job) status.Mem sealed ends not_whole not_part = ends
  untouched_by (Some job) s sealed ends not_whole not_part = absurd (not_whole tt)
