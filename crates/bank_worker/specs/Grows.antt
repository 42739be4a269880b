-- What a visit, a sweep, a round and a run all keep, and what only grows; and what a round does.
use Rattle.std.specs.Prelude.{◌≡◌, ℕ, ◌+◌, ◌*◌, ◌<◌, ◌≤◌, length, slice_index}
use Rattle.clr_net.specs.declared.TheConstants.{MAX_BANKS, MAX_OWED}
use Rattle.pay_words.specs.declared.view.Shown.{Shown}
use Rattle.pay_words.specs.Views.{OwesNoRing, took}
use Rattle.bank_worker.specs.declared.visit.Visit.{Visit}
use Rattle.bank_worker.specs.Raises.{AreRaisedStill}
use Rattle.bank_worker.specs.Sweeps.{AreSweeps}
use Rattle.bank_worker.specs.Views.{WorkerView, desk_at, desks_held, paid_by_all}
use Rattle.bank_worker.specs.Visits.{AddsRaises, AreAtRest, IsAllCalm, IsAllVisits, IsSameWorker}
use Rattle.bank_worker.specs.Visits.{MayRest}
use Rattle.bank_worker.specs.Visits.{TellsRaises, WhenMem, WhenRaised}

-- of a seat that raised n units the network stays, and payments, raises and takes only grew
pub record SeatGrows (n : ℕ) (s t : Shown) : Type 0 where
  pub net : t.net ≡ s.net
  pub none_fell : (x : ℕ) → x < length s.net.debts → slice_index s.paid x ≤ slice_index t.paid x
  pub taken : s.taken ≤ t.taken
  pub raises : AddsRaises n s t

-- so of a worker, which stays the same; its payments rose by n units in all, and each debt on which
-- more is paid was raised
pub record Grows (n : ℕ) (old new : WorkerView) : Type 0 where
  pub same : IsSameWorker old new
  pub seat : SeatGrows n old.seat.shows new.seat.shows
  pub rose : paid_by_all new.seat.shows new.desks ≡ paid_by_all old.seat.shows old.desks + n
  pub told : TellsRaises old.seat.shows new.seat.shows
  pub still : AreRaisedStill old.seat.shows.raises new.seat.shows.raises

-- whole visits to which bells called raised n units, and the worker is ready for more
pub record HasGone (n : ℕ) (old new : WorkerView) : Type 0 where
  pub grows : Grows n old new
  pub by_visits : IsAllVisits n old new
  pub by_bells : new.visits + old.seat.shows.taken ≡ old.visits + new.seat.shows.taken
  pub calm : IsAllCalm new.seat.shows
  pub rest : MayRest new.seat.shows new.desks
  pub no_rings : OwesNoRing new.seat.shows
  pub held : new.desks ≡ desks_held new.seat.shows

-- a round that raised n units
pub record IsRounded (n : ℕ) (old new : WorkerView) : Type 0 where
  pub gone : HasGone n old new
  pub at_rest : AreAtRest new.seat.shows new.desks

-- as many visits as bells were taken, in at most so many sweeps over the desks, each in file order
pub record VisitsByBells (sweeps : ℕ) (old new : WorkerView) : Type 0 where
  pub by_bells : new.visits + old.seat.shows.taken ≡ old.visits + new.seat.shows.taken
  pub at_most : new.visits ≤ old.visits + sweeps * length old.desks
  pub in_sweeps : AreSweeps sweeps old new

-- a worker that has just taken the bell of one of its desks, for a visit that found no memory
abbrev pub with_a_visit_refused : WorkerView → ℕ → WorkerView
with_a_visit_refused w bank = record w {
  visits = w.visits + 1;
  seat = record w.seat { shows = took w.seat.shows bank };
}

-- a round that a visit without memory ended: before that visit all bells that were taken led to
-- whole visits, and nothing else was done; and nothing was done after it
pub record IsStopped (sweeps : ℕ) (old new : WorkerView) : Type 0 where
  pub before : WorkerView
  pub units : ℕ
  pub gone : HasGone units old before
  pub at_most : before.visits ≤ old.visits + sweeps * length old.desks
  pub place : ℕ
  pub known : place < length before.desks
  pub last : new ≡ with_a_visit_refused before (desk_at before.desks place).bank

-- the most visits of a round: a thousand sweeps over the most banks
abbrev pub MAX_VISITS : ℕ
MAX_VISITS = 1000 * MAX_BANKS

-- a round of at most so many sweeps that answered so
pub record MakesRound (sweeps : ℕ) (answer : Visit) (old new : WorkerView) : Type 0 where
  pub same : IsSameWorker old new
  pub visits : VisitsByBells sweeps old new
  pub raised : WhenRaised answer (λ n. IsRounded n old new)
  pub few : WhenRaised answer (λ n. n ≤ MAX_VISITS * MAX_OWED)
  pub mem : WhenMem answer (IsStopped sweeps old new)
