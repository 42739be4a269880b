-- What the rounds on a board come to.
use Rattle.std.specs.Prelude.{◌≡◌, ℕ, ◌+◌, ◌*◌, ◌<◌, ◌≤◌, ◌++◌, true, All, List, [], ◌∷◌, length, slice_index, sum}
use Rattle.clr_net.specs.Amounts.{IsAtMost}
use Rattle.clr_net.specs.Net.{Net}
use Rattle.clear_core.specs.Clearing.{Clears, least}
use Rattle.clear_core.specs.History.{ordered, replayed}
use Rattle.clear_core.specs.declared.event.Raise.{Raise}
use Rattle.pay_words.specs.Views.{BoardView}
use Rattle.pay_words.specs.declared.view.Shown.{Shown}
use Rattle.settle.specs.Bells.{IsIdle}
use Rattle.settle.specs.Between.{IsRoundOf}
use Rattle.settle.specs.declared.plan.Driven.{Driven}
use Rattle.settle.specs.declared.plan.Plan.{Plan}
use Rattle.bank_worker.specs.Grows.{SeatGrows}

-- the limits of a plan
pub record IsPlan (plan : Plan) : Type 0 where
  pub some_workers : 1 ≤ plan.workers
  pub few_workers : plan.workers ≤ 64
  pub some_sweeps : 1 ≤ plan.sweeps
  pub few_sweeps : plan.sweeps ≤ 1000

-- a run on a board: it is of the board's network and of as many workers
pub record IsRunOn (board : BoardView) (net : Net) (plan : Plan) : Type 0 where
  pub workers_are : plan.workers ≡ board.table.workers
  pub net_is : net ≡ board.net

-- what the master shows as paid and as seen is nowhere above the least clearing payments
abbrev pub IsBelowLeast : Net → Shown → Type 0
IsBelowLeast net s = IsAtMost s.paid (least net) × IsAtMost s.sights (least net)

-- the master shows the least clearing payments: each bank pays them, and has seen them
pub record ShowsLeast (net : Net) (s : Shown) : Type 0 where
  pub idle : IsIdle net s
  pub master : s.master ≡ true
  pub paid : s.paid ≡ least net
  pub clears : Clears net s.paid
  pub sights : (x : ℕ) → x < length net.debts → slice_index s.sights x ≡ slice_index s.paid x

-- at least one round, and at most one for each unit that the past left unpaid, and one more
pub record InBounds (net : Net) (past : List Raise) (rounds : ℕ) : Type 0 where
  pub some_round : 1 ≤ rounds
  pub few_rounds : rounds + sum (replayed net past) ≤ sum (least net) + 1

-- rounds one after another, from the master that shows s to the one that shows t, and the units that
-- each raised, the last round first
abbrev pub AreRoundsFrom : Net → Plan → Shown → List ℕ → Shown → Type 0
AreRoundsFrom net plan s [] t = t ≡ s
AreRoundsFrom net plan s (n ∷ ns) t = (m : Shown) × (visits : ℕ) × AreRoundsFrom net plan s ns m
    × IsRoundOf net plan n visits m t

-- so many rounds: the last raised nothing, and each before it raised a unit; and what grows in each
-- of them grew in all
pub record EndsAtRest (net : Net) (plan : Plan) (s t : Shown) (rounds : ℕ) : Type 0 where
  pub raised : List ℕ
  pub each_some : All (λ n. 1 ≤ n) raised
  pub as_many : rounds ≡ length raised + 1
  pub ran : AreRoundsFrom net plan s (0 ∷ raised) t
  pub grown : SeatGrows (sum raised) s t

-- the rounds on a board, from the master that shows s to the one that shows t
pub record IsDriven (net : Net) (past : List Raise) (plan : Plan) (s t : Shown) (d : Driven)
    : Type 0 where
  pub settled : ShowsLeast net t
  pub journal : d.journal.raises ≡ ordered (past ++ t.raises)
  pub bounds : InBounds net past d.rounds
  pub seats : t.seats ≡ d.rounds * plan.workers
  pub visits : t.taken ≡ s.taken + d.visits
  pub visits_by_sweeps : d.visits ≤ d.rounds * (plan.sweeps * length net.banks)
  pub rounds_by_raises : d.rounds ≤ length t.raises + 1
  pub at_rest : EndsAtRest net plan s t d.rounds
