-- What a job comes to: from what it works on, how the run ends and the text that is written. The
-- texts stand in `Reports.antt`, and what a run on a board came to in `Runs.antt`.
use Rattle.std.specs.Prelude.{◌≡◌, ℕ, List, length, map, None, Some, Ok}
use Rattle.clr_net.specs.Net.{Net}
use Rattle.clear_core.specs.Clearing.{least}
use Rattle.clear_core.specs.declared.event.Raise.{Raise}
use Rattle.clear_report.specs.Blocks.{stress_text}
use Rattle.clear_report.specs.Compression.{compressed_text}
use Rattle.clear_many.specs.Texts.{breaking_report}
use Rattle.clear_report.specs.Impact.{impact_text}
use Rattle.clear_report.specs.Journals.{lawful_and_payments}
use Rattle.clear_report.specs.Outcomes.{outcomes_text}
use Rattle.clear_report.specs.Savings.{savings_text}
use Rattle.clear_report.specs.Text.{checked_text, payments_text}
use Rattle.clear_stress.specs.Told.{block_of}
use Rattle.clear_words.specs.declared.job.Job.{Job}
use Rattle.clear_words.specs.declared.task.Task.{Task}
use Rattle.clear_words.specs.declared.task.Task.TheVariants as task
use Rattle.compress.specs.Compression.{Compression}
use Rattle.net_csv.specs.Printing.{banks_text, banks_text_2, debts_text}
use Rattle.raise_journal.specs.Texts.{verdict_line}
use Rattle.raise_journal.specs.Verdicts.{judged}
use Rattle.raise_journal.specs.declared.verdict.Verdict.{Verdict}
use Rattle.raise_journal.specs.declared.verdict.Verdict.TheVariants as verdict
use Rattle.settle.specs.declared.plan.Plan.{Plan}
use Rattle.clear_load.specs.Reading.{Files, Input, reading}
use Rattle.clear_top.specs.Outcome.{Outcome}
use Rattle.clear_top.specs.declared.status.Status.TheVariants as status
use Rattle.clear_top.specs.Reports.{cost_bounds_report, costs_report}
pub use Rattle.clear_top.specs.Reports.{bounds_report, clear_text, shown_of, summary_report}
use Rattle.clear_top.specs.Runs.{Rescues}
pub use Rattle.clear_top.specs.Runs.{Settles}

-- done, with this text, and without a record
abbrev pub IsPlain : List ℕ → Outcome → Type 0
IsPlain text o = o ≡ record { status = status.Done; sealed = None; text = text }

-- what is answered of a journal, by the verdict on it
abbrev pub answer_to : Net → List Raise → Verdict → Outcome
answer_to net journal verdict.Lawful = record {
  status = status.Done;
  sealed = None;
  text = lawful_and_payments net (length journal) (least net);
}
answer_to net journal v = record {
  status = status.Unlawful v;
  sealed = None;
  text = verdict_line net (length journal) v;
}

-- some claims, ranks and units cancelled that compress the network, and their text
abbrev pub IsCompressed : Net → Outcome → Type 0
IsCompressed net o =
    (claims : List ℕ) × (ranks : List ℕ) × (cancelled : ℕ)
    × Compression net claims ranks cancelled
    × IsPlain (compressed_text net claims ranks cancelled) o

-- the workers and sweeps of a job
abbrev pub plan_of : Job → Plan
plan_of job = record { workers = job.workers; sweeps = job.sweeps }

-- what each task comes to: a row for each
abbrev pub ComesTo : Task → Job → Input → Outcome → Type 0
ComesTo task.Check job on =
    IsPlain (checked_text on.net (banks_text on.net) (debts_text on.net))
ComesTo task.Clear job on = Settles on.net (plan_of job) (shown_of task.Clear job.show on.net)
ComesTo task.Central job on = IsPlain (payments_text on.net (least on.net))
ComesTo task.Defaults job on =
    Settles on.net (plan_of job) (shown_of task.Defaults job.show on.net)
ComesTo task.Stress job on = IsPlain (stress_text (map (block_of on.net) on.scenarios))
ComesTo task.Replay job on =
    λ o. o ≡ answer_to on.net on.journal (judged on.net on.journal).verdict
ComesTo task.Gen job on = Settles on.net (plan_of job) (shown_of task.Gen job.show on.net)
ComesTo task.Convert job on = IsPlain (banks_text_2 on.net)
ComesTo task.Bounds job on = Settles on.net (plan_of job) (shown_of task.Bounds job.show on.net)
ComesTo task.Rescue job on = Rescues on.net (plan_of job) on.bank
ComesTo task.Compress job on = IsCompressed on.net
ComesTo task.Costs job on = IsPlain (costs_report on.net job.keep)
ComesTo task.Breaking job on = IsPlain (breaking_report on.net)
ComesTo task.Impact job on = IsPlain (impact_text on.net)
ComesTo task.Rescues job on = IsPlain (savings_text on.net)
ComesTo task.Outcomes job on = IsPlain (outcomes_text on.net on.scenarios)
ComesTo task.CostBounds job on = IsPlain (cost_bounds_report on.net job.keep)

-- with these files the job is accepted, and this is what it comes to
abbrev pub Means : Files → Job → Outcome → Type 0
Means files job o =
    (on : Input) × (reading files job ≡ Some (Ok on)) × ComesTo job.task job on o
