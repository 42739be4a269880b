-- What a whole run comes to.
use Rattle.std.specs.Prelude.{◌≡◌, ℕ, ◌+◌, ◌*◌, ◌≤◌, ◌++◌, All, List, length, sum}
use Rattle.clear_core.specs.declared.event.Raise.{Raise}
use Rattle.clr_net.specs.Net.{Net}
use Rattle.clear_core.specs.Clearing.{least}
use Rattle.clear_core.specs.History.{IsTraced, Stands, ordered, replayed}
use Rattle.pay_words.specs.Belongs.{Belongs}
use Rattle.pay_words.specs.Sealed.{Sealed}
use Rattle.pay_words.specs.Traces.{start_of}
use Rattle.pay_words.specs.Views.{opening}
use Rattle.pay_words.specs.declared.view.Shown.{Shown}
use Rattle.net_check.specs.Within.{IsWithin as IsWithinLimits}
use Rattle.net_check.specs.declared.limits.Limits.{Limits}
use Rattle.raise_journal.specs.ReadBack.{IsInLimits}
use Rattle.raise_journal.specs.Verdicts.{judged}
use Rattle.raise_journal.specs.declared.verdict.Verdict.TheVariants as verdict
use Rattle.settle.specs.Drives.{EndsAtRest, InBounds}
use Rattle.settle.specs.declared.plan.Plan.{Plan}
use Rattle.settle.specs.declared.runs.Settled.{Settled}

-- a run on the network can go on from these raises: they belong to it, with what they leave on each
-- debt
abbrev pub CanGoOn : Net → List Raise → Type 0
CanGoOn net raises = Belongs net (start_of net raises) raises

-- the record is of this network and plan: as many raises were made on the board as its journal has,
-- and as many seats were handed out as rounds times workers
pub record IsRecordOf (net : Net) (plan : Plan) (rounds : ℕ) (r : Sealed) : Type 0 where
  pub net_is : r.net ≡ net
  pub made : r.made ≡ length r.journal
  pub workers : r.workers ≡ plan.workers
  pub seats : r.seats ≡ rounds * plan.workers

-- the same, of a run that went on from a past: its journal begins with the past, and after it stand
-- as many raises as were made on the board
pub record IsRecordAfter (net : Net) (past : List Raise) (plan : Plan) (rounds : ℕ) (r : Sealed)
    : Type 0 where
  pub net_is : r.net ≡ net
  pub raises : List Raise
  pub journal_is : r.journal ≡ past ++ raises
  pub made : r.made ≡ length raises
  pub workers : r.workers ≡ plan.workers
  pub seats : r.seats ≡ rounds * plan.workers

-- at least one round, and at most one for each unit paid, and one more, and one for each raise, and
-- one more; at most as many visits as sweeps over all banks, and as banks and raises
pub record IsWithin (net : Net) (plan : Plan) (rounds visits raises : ℕ) : Type 0 where
  pub some_round : 1 ≤ rounds
  pub few_rounds : rounds ≤ sum (least net) + 1
  pub visits_by_sweeps : visits ≤ rounds * (plan.sweeps * length net.banks)
  pub visits_by_bells : visits ≤ length net.banks + raises
  pub rounds_by_raises : rounds ≤ raises + 1

-- the same, of a run that went on from a past: at most one round for each unit that the past left
-- unpaid, and one more, and by the raises after the past in the place of all
pub record IsWithinAfter (net : Net) (past : List Raise) (plan : Plan) (rounds visits made : ℕ)
    : Type 0 where
  pub rounds_in_bounds : InBounds net past rounds
  pub visits_by_sweeps : visits ≤ rounds * (plan.sweeps * length net.banks)
  pub visits_by_bells : visits ≤ length net.banks + made
  pub rounds_by_raises : rounds ≤ made + 1

-- so many rounds, of so many visits in all, on a board that the past opened, to what is paid in the
-- end: the last of them raised nothing, and each before it raised a unit. The journal has the past
-- and what was raised in them, and nothing else
pub record HasComeToRest (net : Net) (past : List Raise) (plan : Plan) (paid : List ℕ)
    (journal : List Raise) (rounds visits : ℕ) : Type 0 where
  pub master : Shown
  pub rounds_are : EndsAtRest net plan (opening net (start_of net past)) master rounds
  pub visits_are : master.taken ≡ visits
  pub paid_is : master.paid ≡ paid
  pub journal_is : journal ≡ ordered (past ++ master.raises)

-- what a run that went on from a past came to: the least list that clears is paid; its journal is a
-- lawful history of it, in order, within the limits of a journal file by which the network may be
-- read, and one to go on from; its record begins with the past; and it came to rest in few rounds
-- and visits
pub record IsSettled (net : Net) (past : List Raise) (plan : Plan) (s : Settled) : Type 0 where
  pub paid : s.paid ≡ least net
  pub verdict : (judged net s.sealed.journal).verdict ≡ verdict.Lawful
  pub lawful : Stands net s.sealed.journal × IsTraced net s.sealed.journal
  pub replays : replayed net s.sealed.journal ≡ s.paid
  pub in_order : ordered s.sealed.journal ≡ s.sealed.journal
  pub low_stamps : All (λ r. r.stamp ≤ sum s.paid) s.sealed.journal
  pub within_limits : (by : Limits) → IsWithinLimits by net → IsInLimits by net s.sealed.journal
  pub can_go_on : CanGoOn net s.sealed.journal
  pub record_is : IsRecordAfter net past plan s.rounds s.sealed
  pub bounds : IsWithinAfter net past plan s.rounds s.visits s.sealed.made
  pub at_rest : HasComeToRest net past plan s.paid s.sealed.journal s.rounds s.visits
