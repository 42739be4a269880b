-- Visits one after another, to which bells called. What each of them does is in `OneVisit.antt`, and
-- when a worker's banks are at rest is in `Rest.antt`.
use Rattle.std.specs.Prelude.{◌≡◌, ℕ, ◌+◌, ◌<◌, List, [], ◌∷◌, length, sum}
use Rattle.pay_words.specs.Views.{took}
use Rattle.bank_worker.specs.Views.{WorkerView, desk_at}
pub use Rattle.bank_worker.specs.OneVisit.{WhenRaised, WhenMem, IsSameSeat, IsSameWorker, LooksOnce}
pub use Rattle.bank_worker.specs.OneVisit.{AddsRaises, TellsRaises, PaysOut, acts_of, AreRaisedBy}
pub use Rattle.bank_worker.specs.OneVisit.{AreNoted, RingsAll, IsSeatVisited, IsVisited}
pub use Rattle.bank_worker.specs.Rest.{IsDown, IsAllCalm, MayRest, AreAtRest}

-- the worker once it took the bell of the bank b
abbrev pub with_bell : WorkerView → ℕ → WorkerView
with_bell w b = record w { seat = record w.seat { shows = took w.seat.shows b } }

-- a visit at one of the desks that raised n units and was counted, after a take that had found the
-- bell of the desk's bank up; and nothing else was done
pub record IsCalledVisit (place n : ℕ) (old new : WorkerView) : Type 0 where
  pub known : place < length old.desks
  pub same : IsSameWorker old new
  pub counted : new.visits ≡ old.visits + 1
  pub visited : IsVisited (desk_at old.desks place) n
      (with_bell old (desk_at old.desks place).bank) new

-- from old to new the worker did nothing but visits to which bells called it, which raised these
-- units, the last first
abbrev pub AreVisitsFrom : WorkerView → List ℕ → WorkerView → Type 0
AreVisitsFrom old [] new = new ≡ old
AreVisitsFrom old (n ∷ ns) new = (cur : WorkerView) × (place : ℕ) × AreVisitsFrom old ns cur
    × IsCalledVisit place n cur new

-- nothing was done but visits to which bells called, which raised n units in all
pub record IsAllVisits (n : ℕ) (old new : WorkerView) : Type 0 where
  pub units : List ℕ
  pub visits : AreVisitsFrom old units new
  pub in_all : sum units ≡ n
