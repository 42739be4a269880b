-- Clearing prints the least payments, and by them estates less payments are all opening cash.
use Rattle.std.proofs.Common.{◌≡◌, ◌≢◌, ℕ, ◌++◌, List, [], Some, Ok, refl, sym, ap, ◌∙◌, subst, arith, append-nil, append_assoc}
use Rattle.cascade.proofs.PayingOut.{adds_up, pays_out}
use Rattle.clear_core.specs.Clearing.{least}
use Rattle.clear_core.specs.declared.event.Raise.{Raise}
use Rattle.clear_core.proofs.Least.{least_clears, least_rounds}
use Rattle.clear_report.specs.Journals.{journal_and_rounds}
use Rattle.clear_report.specs.Text.{payments_text}
use Rattle.clear_report.specs.Words.{empty_line}
use Rattle.clear_words.specs.declared.job.Job.{Job}
use Rattle.clear_words.specs.declared.show.Show.{Show}
use Rattle.clear_words.specs.declared.show.Show.TheVariants as show
use Rattle.clr_net.specs.Limits.{IsNetwork}
use Rattle.clr_net.specs.Net.{Net}
use Rattle.net_csv.proofs.Networks.{network_of_ok}
use Rattle.clear_top.specs.Meaning.{ComesTo, Means, plan_of}
use Rattle.clear_top.specs.Reports.{clear_text}
use Rattle.clear_top.specs.Runs.{Settles}
use Rattle.clear_top.specs.Outcome.{Outcome}
use Rattle.clear_top.specs.Printed.{PrintsLeast, ShowsPayments}
use Rattle.clear_load.specs.Reading.{Files, both_whole, reading_by}
use Rattle.clear_load.specs.Sources.{source_of}
use Rattle.clear_load.specs.declared.source.Source.TheVariants as source
use Rattle.clear_top.proofs.Evidence.{two_files}

-- what is shown begins with the payments
front : (s : Show) (net : Net) (journal : List Raise) (rounds : ℕ) → s ≢ show.Journal
    → (rest : List ℕ) × (clear_text s net journal rounds ≡ payments_text net (least net) ++ rest)
front show.Payments net journal rounds ne = ([], sym (append-nil (payments_text net (least net))))
front show.Journal net journal rounds ne = absurd (ne refl)
front show.Both net journal rounds ne = (
  empty_line ++ journal_and_rounds net journal rounds,
  append_assoc (payments_text net (least net)) empty_line (journal_and_rounds net journal rounds),
)

-- a job that shows payments prints the least ones, whatever it shows beside them
pub prints_least : (files : Files) (job : Job) (o : Outcome) → ShowsPayments job → Means files job o → PrintsLeast files job o
prints_least files job o (clears, shows) (on, given, comes) =
    let is_read : reading_by source.Files files job ≡ Some (Ok on) =
    subst (λ t. reading_by (source_of t) files job ≡ Some (Ok on)) clears given in
    let found = two_files job.limits (both_whole files job) on is_read in
    let made : Settles on.net (plan_of job) (clear_text job.show on.net) o = subst (λ t. ComesTo t job on o) clears comes in
    let network : IsNetwork on.net = network_of_ok job.limits found.both.0 found.both.1 on.net found.net_is in
    let P = least on.net in
    let begin = front job.show on.net made.settled.sealed.journal made.settled.rounds shows in
    record {
      net = on.net;
      read = given ∙ ap (λ g. Some (Ok g)) (sym found.on_is);
      paid = P;
      least = least_rounds on.net;
      has_it = λ i li. let w = (pays_out on.net P network (least_clears on.net) i).within in omega (arith, w);
      adds_up = (adds_up on.net P network (least_clears on.net)).estates;
      rest = begin.0;
      text_is = ap (λ p. p.text) made.comes ∙ begin.1;
    }
