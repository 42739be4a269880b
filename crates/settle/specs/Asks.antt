-- What a round of all workers and a run ask of their board, its master and their plan, and what a
-- round leaves.
use Rattle.std.specs.Prelude.{◌≡◌, ℕ, ◌++◌, true, List, [], length}
use Rattle.clr_net.specs.Limits.{IsNetwork}
use Rattle.clr_net.specs.Net.{Net}
use Rattle.clear_core.specs.declared.event.Raise.{Raise}
use Rattle.bank_worker.specs.Offices.{OfficeView}
use Rattle.bank_worker.specs.Views.{WorkerView}
use Rattle.pay_words.specs.declared.view.Shown.{Shown}
use Rattle.pay_words.specs.Traces.{start_of}
use Rattle.pay_words.specs.Views.{BoardView, IsAt, SeatView, opening}
use Rattle.settle.specs.Bells.{IsIdle}
use Rattle.settle.specs.Between.{AreOfBoard, HaveGrownAlike, IsBack, IsBetween, IsRoundOf, noted_in, raised_by_all}
use Rattle.settle.specs.Calls.{HaveCalledFrom, OthersAreAtRest}
use Rattle.settle.specs.Drives.{IsPlan}
use Rattle.settle.specs.Offices.{AreAllOffices}
use Rattle.settle.specs.declared.plan.Plan.{Plan}
use Rattle.settle.specs.declared.state.RunState.{RunState}

-- a run on this board stands between two rounds: its master does, and each worker has its office
pub record IsReady (board : BoardView) (net : Net) (plan : Plan) (master : SeatView)
    (state : RunState) : Type 0 where
  pub table_is : master.table ≡ board.table
  pub between : IsBetween net master.shows
  pub offices : AreAllOffices net plan.workers state.offices.items

-- a round on this board, of so many units and visits, from a master and a state to those after it:
-- nothing is pending then, another round may follow, each bank that is not called is at rest, and
-- what was raised is noted
pub record IsRoundOn (board : BoardView) (net : Net) (plan : Plan) (units visits : ℕ)
    (master : SeatView) (state : RunState) (after : SeatView) (left : RunState) : Type 0 where
  pub idle : IsIdle net after.shows
  pub ready : IsReady board net plan after left
  pub called : OthersAreAtRest net left.called after.shows
  pub round : IsRoundOf net plan units visits master.shows after.shows
  pub noted : HaveGrownAlike state.journal.raises state.waiting.items
      (noted_in left.journal.raises left.waiting.items) master.shows.raises after.shows.raises

-- the seats of these workers may be taken back: their master is that of the board, as many workers
-- as the board has made their round on it, and no office and no raise of an earlier round is left
pub record MayClose (board : BoardView) (workers : List WorkerView) (master : SeatView)
    (state : RunState) : Type 0 where
  pub network : IsNetwork board.net
  pub at : IsAt board master
  pub is_the_master : master.shows.master ≡ true
  pub as_many : length workers ≡ board.table.workers
  pub of_board : AreOfBoard board workers
  pub offices : state.offices.items ≡ []
  pub none_waits : state.waiting.items ≡ []

-- what is left once the seats of these workers were taken back, the last one's first: each bank
-- stands as its worker left it, what the workers raised is noted, the creditors of it are called, and
-- each worker has its office
pub record AreTakenBack (board : BoardView) (workers : List WorkerView) (s : Shown) (state : RunState)
    (t : Shown) (left : RunState) : Type 0 where
  pub back : IsBack board.table.workers board.net s workers t 0
  pub raises : t.raises ≡ s.raises ++ raised_by_all workers
  pub noted : HaveGrownAlike state.journal.raises []
      (noted_in left.journal.raises left.waiting.items) s.raises t.raises
  pub called : HaveCalledFrom 0 board.net left.called workers
  pub offices : AreAllOffices board.net board.table.workers left.offices.items

-- the rounds of a run may begin: its master has just opened the board on what the past left, and
-- each worker has its office
pub record MayBegin (board : BoardView) (net : Net) (past : List Raise) (plan : Plan)
    (master : SeatView) (offices : List OfficeView) : Type 0 where
  pub table_is : master.table ≡ board.table
  pub opened : master.shows ≡ opening net (start_of net past)
  pub offices_are : AreAllOffices net plan.workers offices

-- a run may be driven: the network, the past and the workers are those of the board, which its
-- master has just opened
pub record MayDrive (board : BoardView) (net : Net) (past : List Raise) (plan : Plan)
    (master : SeatView) : Type 0 where
  pub limits : IsPlan plan
  pub net_is : net ≡ board.net
  pub past_is : past ≡ board.past
  pub workers_are : plan.workers ≡ board.table.workers
  pub table_is : master.table ≡ board.table
  pub opened : master.shows ≡ opening net (start_of net past)
