-- What each task comes to is of one of three kinds: a text alone, the answer to a journal, or a run
-- with its record.
use Rattle.std.proofs.Common.{◌≡◌, ◌⊎◌, ℕ, true, false, List, [], None, Some, refl, sym, ap, subst, inl, inr}
use Rattle.clr_net.specs.Net.{Net}
use Rattle.clear_core.specs.declared.event.Raise.{Raise}
use Rattle.clear_words.specs.declared.job.Job.{Job}
use Rattle.clear_words.specs.declared.task.Task.{Task}
use Rattle.clear_words.specs.declared.task.Task.TheVariants as task
use Rattle.pay_words.specs.Sealed.{Sealed}
use Rattle.raise_journal.specs.Verdicts.{judged}
use Rattle.settle.proofs.Made.{journal_made}
use Rattle.settle.specs.Made.{IsJournalByBells, workers_of_run}
use Rattle.settle.specs.Runs.{IsSettled}
use Rattle.settle.specs.declared.plan.Plan.{Plan}
use Rattle.settle.specs.declared.runs.Settled.{Settled}
use Rattle.clear_top.specs.Meaning.{ComesTo, IsPlain, answer_to}
use Rattle.clear_top.specs.Runs.{Settles}
use Rattle.clear_top.specs.Outcome.{Outcome}
use Rattle.clear_load.specs.Reading.{Input}
use Rattle.clear_load.specs.Sources.{has_record}
use Rattle.clear_top.specs.Visited.{IsAllByBells, IsByBells}
use Rattle.clear_top.specs.declared.status.Status.TheVariants as status

-- done, without a record
abbrev pub IsBare : Task → Outcome → Type 0
IsBare t o = (has_record t ≡ false) × (o.status ≡ status.Done) × (o.sealed ≡ None)

-- the answer to a journal
abbrev pub IsAnswer : Task → Input → Outcome → Type 0
IsAnswer t on o = (t ≡ task.Replay) × (o ≡ answer_to on.net on.journal (judged on.net on.journal).verdict)

-- done, with a record whose raises were made in visits by bells
abbrev pub IsRecorded : Task → Outcome → Type 0
IsRecorded t o =
    (has_record t ≡ true) × (o.status ≡ status.Done)
    × ((sealed : Sealed) × (o.sealed ≡ Some sealed) × IsAllByBells t sealed)

-- of which kind the outcome of a task is
abbrev pub IsOfAKind : Task → Input → Outcome → Type 0
IsOfAKind t on o = IsBare t o ⊎ (IsAnswer t on o ⊎ IsRecorded t o)

-- the record of a run is by bells, by as many workers as seats
by_run : (net : Net) (past : List Raise) (plan : Plan) (settled : Settled) → IsSettled net past plan settled
    → IsByBells past settled.sealed
by_run net past plan settled run = record {
  net = net;
  plan = plan;
  settled = settled;
  run = run;
  sealed_is = refl;
  by_bells = subst (λ n. IsJournalByBells past (workers_of_run run.at_rest.rounds_are) n settled.visits settled.sealed.journal)
      (sym run.record_is.seats) (journal_made net past plan settled run);
}

-- a text alone
bare : (t : Task) (on : Input) (text : List ℕ) (o : Outcome) → has_record t ≡ false → IsPlain text o → IsOfAKind t on o
bare t on text o none is = inl (none, ap (λ q. q.status) is, ap (λ q. q.sealed) is)

-- a run on one board
ran : (t : Task) (on : Input) (net : Net) (plan : Plan) (shown : List Raise → ℕ → List ℕ) (o : Outcome) → has_record t ≡ true
    → ((s : Sealed) → IsByBells [] s → IsAllByBells t s) → Settles net plan shown o → IsOfAKind t on o
ran t on net plan shown o has alone h = inr (inr (
  has,
  ap (λ q. q.status) h.comes,
  (h.settled.sealed, ap (λ q. q.sealed) h.comes, alone _ (by_run net [] plan h.settled h.is_settled)),
))

-- a row for each task that comes to more than a text alone
pub kind_of : (t : Task) (job : Job) (on : Input) (o : Outcome) → ComesTo t job on o → IsOfAKind t on o
kind_of task.Clear job on o comes = ran task.Clear on _ _ _ o refl (λ s h. h) comes
kind_of task.Defaults job on o comes = ran task.Defaults on _ _ _ o refl (λ s h. h) comes
kind_of task.Replay job on o comes = inr (inl (refl, comes))
kind_of task.Gen job on o comes = ran task.Gen on _ _ _ o refl (λ s h. h) comes
kind_of task.Bounds job on o comes = ran task.Bounds on _ _ _ o refl (λ s h. h) comes
kind_of task.Rescue job on o h = inr (inr (
  refl,
  ap (λ q. q.status) h.comes,
  (
    h.second.sealed,
    ap (λ q. q.sealed) h.comes,
    (h.first.sealed, by_run _ [] _ h.first h.first_settled, by_run _ h.first.sealed.journal _ h.second h.second_settled),
  ),
))
kind_of task.Compress job on o (claims, ranks, n, compresses, plain) = bare task.Compress on _ o refl plain
kind_of t job on o comes = bare t on _ o refl comes
