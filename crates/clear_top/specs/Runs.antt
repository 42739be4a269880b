-- What a run of workers on a board came to, and one that goes on from it once a bank is saved.
use Rattle.std.specs.Prelude.{◌≡◌, ℕ, ◌+◌, ◌≤◌, All, List, [], length, sum, Some}
use Rattle.clr_net.specs.Net.{Net, units_owed}
use Rattle.clear_core.specs.Clearing.{least}
use Rattle.clear_core.specs.History.{IsTraced, ordered}
use Rattle.clear_core.specs.declared.event.Raise.{Raise}
use Rattle.net_check.specs.Within.{IsWithin}
use Rattle.net_check.specs.declared.limits.Limits.{Limits}
use Rattle.raise_journal.specs.ReadBack.{IsInLimits}
use Rattle.raise_journal.specs.Verdicts.{judged}
use Rattle.raise_journal.specs.declared.verdict.Verdict.TheVariants as verdict
use Rattle.settle.specs.Runs.{CanGoOn, IsRecordOf, IsSettled}
use Rattle.settle.specs.declared.plan.Plan.{Plan}
use Rattle.settle.specs.declared.runs.Settled.{Settled}
use Rattle.clear_top.specs.Outcome.{Outcome}
use Rattle.clear_top.specs.declared.status.Status.TheVariants as status
use Rattle.clear_top.specs.Reports.{rescued_net, rescue_report}

-- a journal of raises that clears a network, each lawful where it stands, as it may be shown after
-- so many rounds: it replays to the least list, its raises differ and stand in order, no stamp is
-- above the units paid, it is within the limits of a journal file by which the network may be read,
-- a run can go on from it, and the rounds are at most the units owed, at most the units paid, and
-- at most the raises, and one more
pub record IsRun (net : Net) (journal : List Raise) (rounds : ℕ) : Type 0 where
  pub lawful : (judged net journal).verdict ≡ verdict.Lawful
  pub replays : (judged net journal).paid ≡ least net
  pub traced : IsTraced net journal
  pub in_order : ordered journal ≡ journal
  pub low_stamps : All (λ r. r.stamp ≤ sum (least net)) journal
  pub in_limits : (by : Limits) → IsWithin by net → IsInLimits by net journal
  pub can_go_on : CanGoOn net journal
  pub some_round : 1 ≤ rounds
  pub few_rounds : rounds ≤ units_owed net + 1
  pub rounds_by_units_paid : rounds ≤ sum (least net) + 1
  pub rounds_by_raises : rounds ≤ length journal + 1

-- done after a run of a plan's workers on one board, whose record is answered, and which came to
-- all that is said of a run of settle; the text may show the record's journal, and the rounds
pub record Settles (net : Net) (plan : Plan) (shown : List Raise → ℕ → List ℕ) (o : Outcome)
    : Type 0 where
  pub settled : Settled
  pub is_settled : IsSettled net [] plan settled
  pub record_is : IsRecordOf net plan settled.rounds settled.sealed
  pub run : IsRun net settled.sealed.journal settled.rounds
  pub comes : o ≡ record {
    status = status.Done;
    sealed = Some settled.sealed;
    text = shown settled.sealed.journal settled.rounds;
  }

-- done after a run on the network as it is, and one that goes on from it once the bank is saved: on
-- a board whose record is answered, and whose journal begins with that of the first run, before as
-- many raises as were made on the board
pub record Rescues (net : Net) (plan : Plan) (bank : ℕ) (o : Outcome) : Type 0 where
  pub first : Settled
  pub second : Settled
  pub first_settled : IsSettled net [] plan first
  pub second_settled : IsSettled (rescued_net net bank) first.sealed.journal plan second
  pub before : IsRun net first.sealed.journal first.rounds
  pub run : IsRun (rescued_net net bank) second.sealed.journal second.rounds
  pub comes : o ≡ record {
    status = status.Done;
    sealed = Some second.sealed;
    text = rescue_report net bank;
  }
