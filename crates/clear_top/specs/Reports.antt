-- The texts that tasks print, from a network and its least payments.
use Rattle.std.specs.Prelude.{ℕ, List}
use Rattle.clr_net.specs.Net.{Net}
use Rattle.clear_core.specs.Clearing.{least}
use Rattle.clear_core.specs.declared.event.Raise.{Raise}
use Rattle.clear_report.specs.Bounds.{bounds_tables}
use Rattle.clear_report.specs.CostBounds.{cost_bounds_text}
use Rattle.clear_report.specs.Costs.{costs_text}
use Rattle.clear_report.specs.Journals.{journal_and_rounds}
use Rattle.clear_report.specs.Least.{defaults_report, least_standings}
use Rattle.clear_report.specs.Rescues.{rescued_text}
use Rattle.clear_report.specs.Summary.{summary_lines}
use Rattle.clear_report.specs.Text.{payments_text}
use Rattle.clear_report.specs.Words.{one_above_other}
use Rattle.clear_words.specs.declared.show.Show.{Show}
use Rattle.clear_words.specs.declared.show.Show.TheVariants as show
use Rattle.clear_words.specs.declared.task.Task.{Task}
use Rattle.clear_words.specs.declared.task.Task.TheVariants as task
use Rattle.costs.specs.Costs.{cost_greatest, cost_least}
use Rattle.costs.specs.CostStandings.{cost_standings}
use Rattle.rescue.specs.Rescue.{added, rescue, short_of}
use Rattle.upper.specs.Bounds.{greatest, waves}

-- what clearing writes, by what is to be shown
abbrev pub clear_text : Show → Net → List Raise → ℕ → List ℕ
clear_text show.Payments net journal rounds = payments_text net (least net)
clear_text show.Journal net journal rounds = journal_and_rounds net journal rounds
clear_text show.Both net journal rounds =
    one_above_other (payments_text net (least net)) (journal_and_rounds net journal rounds)

-- a network in numbers, and what its least payments come to
abbrev pub summary_report : Net → List ℕ
summary_report net = summary_lines net (least net) (least_standings net)

-- the least and the greatest payments that clear, and the waves and equities of the banks
abbrev pub bounds_report : Net → List ℕ
bounds_report net =
    bounds_tables net (least net) (greatest net) (waves net) (least_standings net)

-- what is shown of a run on one board, by the task
abbrev pub shown_of : Task → Show → Net → List Raise → ℕ → List ℕ
shown_of task.Defaults show net journal rounds = defaults_report net
shown_of task.Gen show net journal rounds = summary_report net
shown_of task.Bounds show net journal rounds = bounds_report net
shown_of t show net journal rounds = clear_text show net journal rounds

-- the least payments where so many thousandths are kept on default, and how the banks stand then
abbrev pub costs_report : Net → ℕ → List ℕ
costs_report net keep =
    costs_text net (cost_least net keep) (cost_standings net keep (cost_least net keep))

-- both ends where so many thousandths are kept on default, and how the banks stand at each
abbrev pub cost_bounds_report : Net → ℕ → List ℕ
cost_bounds_report net keep =
    let below = cost_least net keep in
    let above = cost_greatest net keep in
    cost_bounds_text net below above (cost_standings net keep below) (cost_standings net keep above)

-- the network with the least sum that saves the bank added to its cash
abbrev pub rescued_net : Net → ℕ → Net
rescued_net net bank = added net bank (rescue net bank)

-- what saves the bank, and the least payments then
abbrev pub rescue_report : Net → ℕ → List ℕ
rescue_report net bank =
    rescued_text net bank (rescue net bank) (short_of net bank (rescue net bank))
    (least (rescued_net net bank))
