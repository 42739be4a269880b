-- A journal that is shown is read again as it was, and replayed.
use Rattle.std.proofs.Common.{◌≡◌, ℕ, ◌^◌, ◌<◌, List, None, Some, Ok, Err, refl, sym, ap, ◌∙◌, subst, arith}
use Rattle.clr_net.specs.Limits.{IsNetwork}
use Rattle.clr_net.specs.Net.{Net}
use Rattle.clear_core.specs.declared.event.Raise.{Raise}
use Rattle.clear_report.specs.Journals.{journal_and_rounds}
use Rattle.clear_words.specs.declared.job.Job.{Job}
use Rattle.clear_words.specs.declared.show.Show.TheVariants as show
use Rattle.clear_words.specs.declared.task.Task.TheVariants as task
use Rattle.net_check.proofs.Passed.{and_then-ok, fault_unless-ok}
use Rattle.net_check.specs.Record.{fault_at}
use Rattle.net_check.specs.declared.fault.FileKind.TheVariants as file
use Rattle.net_check.specs.declared.fault.FaultKind.TheVariants as fault
use Rattle.net_check.specs.declared.limits.Limits.{Limits}
use Rattle.net_csv.proofs.KeptNames.{network_of_names}
use Rattle.net_csv.proofs.Networks.{network_is_within, network_of_ok}
use Rattle.net_csv.specs.Reading.{is_within_limit}
use Rattle.raise_journal.proofs.ReadBacks.{closed_journal_back}
use Rattle.raise_journal.specs.ReadJournal.{journal_within, raises_in_file}
use Rattle.raise_journal.specs.Verdicts.{judged}
use Rattle.raise_journal.specs.declared.verdict.Verdict.TheVariants as verdict
use Rattle.clear_top.specs.Evidence.{IsEvidence, ReplaysText, ShowsJournal}
use Rattle.clear_top.specs.Meaning.{ComesTo, Means, answer_to, plan_of}
use Rattle.clear_top.specs.Reports.{clear_text}
use Rattle.clear_top.specs.Runs.{Settles}
use Rattle.clear_load.specs.Reading.{Files, Input, Read, alone, all_whole, both_whole, contents}
use Rattle.clear_load.specs.Reading.{net_in, reading, reading_by, then_read, whole}
use Rattle.clear_load.specs.Sources.{source_of}
use Rattle.clear_top.specs.Outcome.{Outcome}
use Rattle.clear_load.specs.declared.source.Source.TheVariants as source

-- two files, the network that they give by these limits, and that it is all that was read
pub record TwoFiles (by : Limits) (r : Read (List ℕ × List ℕ)) (on : Input) : Type 0 where
  pub both : List ℕ × List ℕ
  pub both_are : r ≡ Some (Ok both)
  pub net_is : net_in by both ≡ Ok on.net
  pub on_is : alone on.net ≡ on

-- if the contents of two files give an input, they are read, and the input is their network alone
pub two_files : (by : Limits) (r : Read (List ℕ × List ℕ)) (on : Input)
    → then_read r (λ both. Some (contents by both)) ≡ Some (Ok on) → TwoFiles by r on
two_files by None on h = absurd (cc)
two_files by (Some (Err f)) on h = absurd (cc)
two_files by (Some (Ok both)) on h =
    let is : contents by both ≡ Ok on = cc in
    let found = and_then-ok (net_in by both) (λ net. Ok (alone net)) on is in
    let same : alone found.0 ≡ on = cc in
    record {
      both = both;
      both_are = refl;
      net_is = found.1 ∙ ap (λ g. Ok g.net) same;
      on_is = sym (ap (λ g. alone g.net) same) ∙ same;
    }

-- two files and the text of a journal are read as the network and the journal
journal_read : (later : Files) (again : Job) (both : List ℕ × List ℕ) (net : Net) (text : List ℕ)
    (journal : List Raise) → source_of again.task ≡ source.FilesAndJournal
    → both_whole later again ≡ Some (Ok both) → later again.third ≡ Some text
    → net_in again.limits both ≡ Ok net → journal_within again.limits net text ≡ Ok journal
    → reading later again ≡ Some (Ok (record (alone net) { journal = journal }))
journal_read later again both net text journal of_journal both_are third net_is read =
    let by = again.limits in
    let fits = (fault_unless-ok (is_within_limit by file.Journal text) (fault_at file.Journal 0 fault.FileSize)
    (raises_in_file by net text) journal read).0 in
    let whole_third : whole by later file.Journal again.third ≡ Some (Ok text) = rw (third, fits) refl in
    let all : all_whole later again file.Journal ≡ Some (Ok (both, text)) = rw (both_are, whole_third) refl in
    rw of_journal (rw all (rw (net_is, read) refl))

-- a lawful journal has one answer
one_answer : (net : Net) (journal : List Raise) (later : Files) (again : Job) (p : Outcome)
    → again.task ≡ task.Replay
    → reading later again ≡ Some (Ok (record (alone net) { journal = journal }))
    → (judged net journal).verdict ≡ verdict.Lawful → Means later again p
    → p ≡ answer_to net journal verdict.Lawful
one_answer net journal later again p replays read lawful (on, given, comes) =
    let both : Some (Ok on) ≡ Some (Ok (record (alone net) { journal = journal })) = sym given ∙ read in
    let is : on ≡ record (alone net) { journal = journal } = cc in
    let here : ComesTo task.Replay again on p = subst (λ t. ComesTo t again on p) replays comes in
    let there : p ≡ answer_to net journal (judged net journal).verdict =
    subst (λ g. p ≡ answer_to g.net g.journal (judged g.net g.journal).verdict) is here in
    there ∙ ap (answer_to net journal) lawful

-- what is shown of a run and saved is evidence
pub shown_is_evidence : (files later : Files) (job again : Job) (o : Outcome) → ShowsJournal job → Means files job o
    → ReplaysText files job later again o.text → IsEvidence files job o later again
shown_is_evidence files later job again o (clears, shows) (on, given, comes) (replays, limits, banks, debts, third) =
    let is_read : reading_by source.Files files job ≡ Some (Ok on) =
    subst (λ t. reading_by (source_of t) files job ≡ Some (Ok on)) clears given in
    let by = job.limits in
    let found = two_files by (both_whole files job) on is_read in
    let cleared : ComesTo task.Clear job on o = subst (λ t. ComesTo t job on o) clears comes in
    let made : Settles on.net (plan_of job) (clear_text show.Journal on.net) o =
    subst (λ s. Settles on.net (plan_of job) (clear_text s on.net) o) shows cleared in
    let run = made.run in
    let journal = made.settled.sealed.journal in
    let network : IsNetwork on.net = network_of_ok by found.both.0 found.both.1 on.net found.net_is in
    let keeps = network_of_names by found.both.0 found.both.1 on.net found.net_is in
    let within = network_is_within by found.both.0 found.both.1 on.net found.net_is in
    let few : made.settled.rounds < 10 ^ 20 = omega (arith, run.few_rounds, network.owed_in_limit) in
    let back = closed_journal_back by on.net journal made.settled.rounds network keeps (run.in_limits by within) few in
    let both : both_whole later again ≡ Some (Ok found.both) = simp (limits, banks, debts) found.both_are in
    let read : reading later again ≡ Some (Ok (record (alone on.net) { journal = journal })) =
    journal_read later again found.both on.net (journal_and_rounds on.net journal made.settled.rounds) journal
    (ap source_of replays) both (third ∙ ap (λ p. Some p.text) made.comes)
    (ap (λ l. net_in l found.both) limits ∙ found.net_is)
    (ap (λ l. journal_within l on.net (journal_and_rounds on.net journal made.settled.rounds)) limits ∙ back) in
    record {
      net = on.net;
      sealed = made.settled.sealed;
      cleared = given ∙ ap (λ g. Some (Ok g)) (sym found.on_is);
      record_is = ap (λ p. p.sealed) made.comes;
      read = read;
      replayed = λ p means. one_answer on.net journal later again p replays read run.lawful means;
    }
