-- What a round of all workers asks and does.
use Rattle.std.specs.Prelude.{◌≡◌, ℕ, ◌+◌, ◌*◌, ◌<◌, ◌≤◌, All, List, [], length, sum_by, slice_index_or}
use Rattle.clr_net.specs.declared.TheConstants.{MAX_OWED}
use Rattle.pay_words.specs.Views.{BoardView, Place, opening}
use Rattle.bank_worker.specs.Views.{WorkerView, paid_by_all}
use Rattle.bank_worker.specs.Grows.{IsRounded, MAX_VISITS, VisitsByBells}
use Rattle.bank_worker.specs.Ready.{IsReadyWorker}
use Rattle.bank_worker.specs.Visits.{IsSameWorker}

-- each of these workers may make a round on the board
abbrev pub AreReadyWorkers : BoardView → List WorkerView → Type 0
AreReadyWorkers board ws = All (IsReadyWorker board) ws

-- a worker that made a round
pub record MadeRound (sweeps : ℕ) (old new : WorkerView) : Type 0 where
  pub units : ℕ
  pub same : IsSameWorker old new
  pub visits : VisitsByBells sweeps old new
  pub rounded : IsRounded units old new

-- the table of no board
abbrev pub no_place : Place
no_place = record {
  id = record {
    words = 0;
    slots = 0;
    views_name = 0;
    atom = 0;
    block = 0;
    offset = 0;
    slot_names = [];
  };
  workers = 0;
}

-- the worker of no board
abbrev pub no_worker : WorkerView
no_worker = record {
  seat = record {
    table = no_place;
    shows = opening (record { banks = []; debts = [] }) [];
  };
  desks = [];
  worker = 0;
  visits = 0;
  journal = [];
}

abbrev pub worker_at : List WorkerView → ℕ → WorkerView
worker_at ws i = slice_index_or ws i no_worker

-- what the banks of a worker pay, in all
abbrev pub paid_by_worker : WorkerView → ℕ
paid_by_worker w = paid_by_all w.seat.shows w.desks

-- each worker made a round, and together they raised n units
pub record AreRounded (sweeps n : ℕ) (olds news : List WorkerView) : Type 0 where
  pub as_many : length news ≡ length olds
  pub each : (i : ℕ) → i < length olds → MadeRound sweeps (worker_at olds i) (worker_at news i)
  pub rose : sum_by paid_by_worker news ≡ sum_by paid_by_worker olds + n
  pub few : n ≤ length olds * (MAX_VISITS * MAX_OWED)
