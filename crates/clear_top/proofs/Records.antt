-- Which tasks answer a record, and when a journal is told unlawful.
use Rattle.std.proofs.Common.{inl, inr, ◌≡◌, ◌≢◌, ◌↔◌, true, false, List, Option, Some, None, Ok, refl, sym, ap, ◌∙◌, subst}
use Rattle.std.specs.Option.{IsSome, is_some}
use Rattle.clr_net.specs.Net.{Net}
use Rattle.clear_core.specs.declared.event.Raise.{Raise}
use Rattle.clear_words.specs.declared.job.Job.{Job}
use Rattle.clear_words.specs.declared.task.Task.{Task}
use Rattle.clear_words.specs.declared.task.Task.TheVariants as task
use Rattle.pay_words.specs.Sealed.{Sealed}
use Rattle.raise_journal.specs.Verdicts.{judged}
use Rattle.raise_journal.specs.declared.verdict.Verdict.{Verdict}
use Rattle.raise_journal.specs.declared.verdict.Verdict.TheVariants as verdict
use Rattle.clear_load.specs.Loading.{AreRead, OnFiles, ShelfCall}
use Rattle.clear_top.specs.Ending.{JobEnds, RunEnds, Works, WritesNothing}
use Rattle.clear_top.specs.Laws.{AnswersRecord, IsFoundUnlawful, WritesText}
use Rattle.clr_edge.specs.Taking.{SinkCall}
use Rattle.clear_top.specs.Meaning.{ComesTo, answer_to}
use Rattle.clear_top.specs.Visited.{IsAllByBells}
use Rattle.clear_top.proofs.Outcomes.{IsOfAKind, kind_of}
use Rattle.clear_load.specs.Reading.{Files, Input}
use Rattle.clear_top.specs.Outcome.{Outcome}
use Rattle.clear_load.specs.Sources.{has_record, source_of}
use Rattle.clear_top.specs.declared.status.Status.{Status}
use Rattle.clear_top.specs.declared.status.Status.TheVariants as status

-- the answer to a journal has no record of a run
answer_without : (net : Net) (rs : List Raise) (v : Verdict) → (answer_to net rs v).sealed ≡ None
answer_without net rs verdict.Lawful = refl
answer_without net rs v = refl

-- an answer to a journal has no record
no_record : (on : Input) (o : Outcome) → o ≡ answer_to on.net on.journal (judged on.net on.journal).verdict → o.sealed ≡ None
no_record on o is = ap (λ q. q.sealed) is ∙ answer_without on.net on.journal (judged on.net on.journal).verdict

-- what a task comes to has a record where the task has one
kind_with : (t : Task) (on : Input) (o : Outcome) → IsOfAKind t on o → is_some o.sealed ≡ has_record t
kind_with t on o (inl (none, done, bare)) = ap is_some bare ∙ sym none
kind_with t on o (inr (inl (replays, is))) = ap is_some (no_record on o is) ∙ sym (ap has_record replays)
kind_with t on o (inr (inr (has, done, (sealed, is, made)))) = ap is_some is ∙ sym has

-- no record is none
none_is_no_record : (sealed : Option Sealed) → sealed ≡ None → IsSome sealed → ⊥
none_is_no_record sealed none some = let apart : false ≡ true = sym (ap is_some none) ∙ some in cc

-- work that was written, whole or in part
of_work : (files : Option Files) (job : Job) (o : Outcome) (s : Status) → Works files job o
    → ¬ (WritesNothing s) → IsSome o.sealed ↔ AnswersRecord (Some job) s
of_work files job o s (on, given, comes) written =
    let is = kind_with job.task on o (kind_of job.task job on o comes) in
    (λ some. (sym is ∙ some, written), λ has. is ∙ has.0)

module _ (shelf : ShelfCall) (sink : SinkCall) where
  -- a record is there exactly for its tasks and statuses
  pub recorded_by : (job : Option Job) (s : Status) (sealed : Option Sealed)
      → RunEnds shelf sink job (record { status = s; sealed = sealed })
      → IsSome sealed ↔ AnswersRecord job s
  recorded_by None s sealed ends =
      (λ some. absurd (none_is_no_record sealed ends.1.1 some), λ has. absurd has)
  recorded_by (Some job) status.Usage sealed ends = absurd ends
  recorded_by (Some job) (status.ReadFault k) sealed ends =
      (λ some. absurd (none_is_no_record sealed ends.1.1 some), λ has. absurd (has.1 tt))
  recorded_by (Some job) (status.Refused f) sealed ends =
      (λ some. absurd (none_is_no_record sealed ends.1.1 some), λ has. absurd (has.1 tt))
  recorded_by (Some job) status.Mem sealed ends =
      (λ some. absurd (none_is_no_record sealed ends.1 some), λ has. absurd (has.1 tt))
  recorded_by (Some job) status.WriteFault sealed (ending, text, works, part) =
      of_work shelf.files job _ status.WriteFault works (λ nothing. nothing)
  recorded_by (Some job) s sealed ends = of_work shelf.files job _ s ends.1 (λ nothing. nothing)

-- the status that a verdict has
told_of : (net : Net) (rs : List Raise) (v w : Verdict) → (answer_to net rs w).status ≡ status.Unlawful v
    → (w ≡ v) × (v ≢ verdict.Lawful)
told_of net rs v verdict.Lawful is = absurd (cc)
told_of net rs v w is = (cc, λ lawful. cc)

-- work that comes to an unlawful journal is a replay of it
is_replay : (t : Task) (on : Input) (o : Outcome) (v : Verdict) → IsOfAKind t on o → o.status ≡ status.Unlawful v
    → (t ≡ task.Replay) × ((judged on.net on.journal).verdict ≡ v) × (v ≢ verdict.Lawful)
is_replay t on o v (inl (none, done, bare)) is = absurd (let both = sym done ∙ is in cc)
is_replay t on o v (inr (inl (replays, answer))) is =
    let found = told_of on.net on.journal v (judged on.net on.journal).verdict (sym (ap (λ q. q.status) answer) ∙ is) in
    (replays, found.0, found.1)
is_replay t on o v (inr (inr (has, done, kept))) is = absurd (let both = sym done ∙ is in cc)

-- the answer to a journal that is found unlawful
answer_told : (net : Net) (rs : List Raise) (w : Verdict) → w ≢ verdict.Lawful
    → (answer_to net rs w).status ≡ status.Unlawful w
answer_told net rs verdict.Lawful bad = absurd (bad refl)
answer_told net rs w bad = refl

-- the work on a journal that is found unlawful comes to that status
found_told : (told : Files) (files : Option Files) (job : Job) (o : Outcome) (v : Verdict) → AreRead (source_of job.task) files told
    → Works files job o → IsFoundUnlawful told job v → o.status ≡ status.Unlawful v
found_told told files job o v tells (on, given, comes) (seen, replays, read, is, bad) =
    let both : Some (Ok on) ≡ Some (Ok seen) = sym (given told tells) ∙ read in
    let same : on ≡ seen = cc in
    let here : ComesTo task.Replay job on o = subst (λ t. ComesTo t job on o) replays comes in
    let verdict_is : (judged on.net on.journal).verdict ≡ v =
    ap (λ g. (judged g.net g.journal).verdict) same ∙ is in
    ap (λ q. q.status) here
    ∙ answer_told on.net on.journal (judged on.net on.journal).verdict (λ lawful. bad (sym verdict_is ∙ lawful))
    ∙ ap status.Unlawful verdict_is

module _ (shelf : ShelfCall) (sink : SinkCall) where
  -- a journal is told unlawful exactly where it is found so and its line is written whole
  pub unlawful_by : (job : Job) (s : Status) (sealed : Option Sealed) (v : Verdict) → JobEnds shelf sink job s sealed
      → OnFiles shelf.files job (λ told. (s ≡ status.Unlawful v) ↔ (IsFoundUnlawful told job v × WritesText s))
  unlawful_by job status.Done sealed v (text, works, taken) told tells =
      (λ is. absurd (cc), λ found. found_told told shelf.files job _ v tells works found.0)
  unlawful_by job (status.Unlawful w) sealed v (text, (on, given, comes), taken) told tells = (
    λ is. let found = is_replay job.task on _ w (kind_of job.task job on _ comes) refl in
        let same : w ≡ v = cc in
        ((on, found.0, given told tells, found.1 ∙ same, λ lawful. found.2 (same ∙ lawful)), tt),
    λ found. found_told told shelf.files job _ v tells (on, given, comes) found.0,
  )
  unlawful_by job s sealed v ends told tells = (λ is. absurd (cc), λ found. absurd found.1)

-- the record of what a task comes to is by bells
record_of : (t : Task) (on : Input) (o : Outcome) (sealed : Sealed) → IsOfAKind t on o → o.sealed ≡ Some sealed
    → IsAllByBells t sealed
record_of t on o sealed (inl (none, done, bare)) is = absurd (let both : Some sealed ≡ None = sym is ∙ bare in cc)
record_of t on o sealed (inr (inl (replays, answer))) is =
    absurd (let both : Some sealed ≡ None = sym is ∙ no_record on o answer in cc)
record_of t on o sealed (inr (inr (has, done, (found, there, made)))) is =
    let both : Some found ≡ Some sealed = sym there ∙ is in
    let same : found ≡ sealed = cc in
    subst (IsAllByBells t) same made

module _ (shelf : ShelfCall) (sink : SinkCall) (job : Job) (sealed : Sealed) where
  -- a record that work answers is of a run by bells
  of_works : (o : Outcome) → Works shelf.files job o → o.sealed ≡ Some sealed → IsAllByBells job.task sealed
  of_works o (on, given, comes) is = record_of job.task on o sealed (kind_of job.task job on o comes) is

  -- nothing is to be shown of an outcome without a record
  of_none : (given : Option Sealed) → given ≡ None → given ≡ Some sealed → IsAllByBells job.task sealed
  of_none given none is = absurd (let both : Some sealed ≡ None = sym is ∙ none in cc)

  -- every raise of the record that a run answers was made in a visit to which a bell called
  pub by_bells : (s : Status) (given : Option Sealed) → JobEnds shelf sink job s given → given ≡ Some sealed
      → IsAllByBells job.task sealed
  by_bells status.WriteFault given (s, text, works, part) is = of_works _ works is
  by_bells status.Usage given ends is = absurd ends
  by_bells (status.ReadFault k) given ends is = of_none given ends.1.1 is
  by_bells (status.Refused f) given ends is = of_none given ends.1.1 is
  by_bells status.Mem given ends is = of_none given ends.1 is
  by_bells s given ends is = of_works _ ends.1 is
