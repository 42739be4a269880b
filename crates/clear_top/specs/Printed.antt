-- The payments that clearing prints, in plain words.
use Rattle.std.specs.Prelude.{◌≡◌, ◌≢◌, ℕ, ◌-◌, ◌<◌, ◌≤◌, ◌++◌, List, length, sum_by, Some, Ok}
use Rattle.clr_net.specs.Net.{Net, all_cash}
use Rattle.cascade.specs.Standings.{bank_numbers, paid_by}
use Rattle.clear_core.specs.Clearing.{IsLeast, estate}
use Rattle.clear_report.specs.Text.{payments_text}
use Rattle.clear_words.specs.declared.job.Job.{Job}
use Rattle.clear_words.specs.declared.show.Show.TheVariants as show
use Rattle.clear_words.specs.declared.task.Task.TheVariants as task
use Rattle.clear_top.specs.Outcome.{Outcome}
use Rattle.clear_load.specs.Reading.{Files, alone, reading}

-- the job clears, and shows payments, with the journal or without
abbrev pub ShowsPayments : Job → Type 0
ShowsPayments job = (job.task ≡ task.Clear) × (job.show ≢ show.Journal)

-- the text begins with payments on the network of the files. They are the least that clear; no bank
-- pays more than its cash and receipts; and these less what is paid come to all opening cash
pub record PrintsLeast (files : Files) (job : Job) (o : Outcome) : Type 0 where
  pub net : Net
  pub read : reading files job ≡ Some (Ok (alone net))
  pub paid : List ℕ
  pub least : IsLeast net paid
  pub has_it : (i : ℕ) → i < length net.banks → paid_by net paid i ≤ estate net paid i
  pub adds_up : sum_by (λ i. estate net paid i - paid_by net paid i) (bank_numbers net)
      ≡ all_cash net
  pub rest : List ℕ
  pub text_is : o.text ≡ payments_text net paid ++ rest
