-- When a worker may begin a round.
use Rattle.std.specs.Prelude.{◌^◌, ◌≤◌}
use Rattle.pay_words.specs.Views.{BoardView, IsAt, OwesNoRing}
use Rattle.bank_worker.specs.Views.{WorkerView}
use Rattle.bank_worker.specs.Visits.{IsAllCalm, MayRest}

-- the worker may make a round on the board: its seat is of that board and owes no ring, nothing is
-- pending, each of its banks is fresh or pays its division at what was last seen, and its visits are
-- few enough to be counted on
pub record IsReadyWorker (board : BoardView) (w : WorkerView) : Type 0 where
  pub at : IsAt board w.seat
  pub visits : w.visits ≤ 2 ^ 62
  pub no_rings : OwesNoRing w.seat.shows
  pub calm : IsAllCalm w.seat.shows
  pub rest : MayRest w.seat.shows w.desks
