-- By which workers, and in which visits, the raises of a run were made.
use Rattle.std.specs.Prelude.{◌≡◌, ℕ, ◌+◌, ◌++◌, All, List, [], ◌∷◌, flat_map, length, sum_by}
use Rattle.clear_core.specs.History.{ordered}
use Rattle.clear_core.specs.declared.event.Raise.{Raise}
use Rattle.pay_words.specs.declared.view.Shown.{Shown}
use Rattle.clr_net.specs.Net.{Net}
use Rattle.bank_worker.specs.Views.{WorkerView}
use Rattle.bank_worker.specs.Visits.{IsAllVisits}
use Rattle.settle.specs.Between.{opened_workers}
use Rattle.settle.specs.Drives.{AreRoundsFrom, EndsAtRest}
use Rattle.settle.specs.declared.plan.Plan.{Plan}

-- a worker in a round: as it was when the round began, and as it was when the round ended
pub record WorkerRound : Type 0 where
  pub old : WorkerView
  pub new : WorkerView

-- the worker had done nothing yet, and then did nothing but visits to which bells called it
pub record IsAllByBells (w : WorkerRound) : Type 0 where
  pub no_visit : w.old.visits ≡ 0
  pub no_act : w.old.seat.shows.acts ≡ []
  pub no_raise : w.old.seat.shows.raises ≡ []
  pub units : ℕ
  pub by_visits : IsAllVisits units w.old w.new

-- the workers of a round, the last one first
abbrev pub worker_rounds : List WorkerView → List WorkerView → List WorkerRound
worker_rounds [] news = []
worker_rounds (old ∷ olds) [] = []
worker_rounds (old ∷ olds) (new ∷ news) =
    worker_rounds olds news ++ record { old = old; new = new } ∷ []

-- the very workers of these rounds, those of the first round first
abbrev pub workers_of : (net : Net) (plan : Plan) (s t : Shown) (ns : List ℕ)
    → AreRoundsFrom net plan s ns t → List WorkerRound
workers_of net plan s t [] is = []
workers_of net plan s t (n ∷ ns) (m, visits, before, round) =
    workers_of net plan s m ns before
    ++ worker_rounds (opened_workers plan.workers round.by_visits.table m plan.workers)
    round.by_visits.workers

abbrev pub workers_of_run : {net : Net} {plan : Plan} {s t : Shown} {rounds : ℕ}
    → EndsAtRest net plan s t rounds → List WorkerRound
workers_of_run {net} {plan} {s} {t} run = workers_of net plan s t (0 ∷ run.raised) run.ran

-- what these workers raised, each raise once
abbrev pub raises_in : List WorkerRound → List Raise
raises_in ws = flat_map (λ w. w.new.seat.shows.raises) ws

-- from the master that shows s to the one that shows t all was done by these workers, each of which
-- did nothing but visits to which bells called it: all raises are theirs, and all takes of bells
-- their visits
pub record AreMadeByBells (workers : List WorkerRound) (s t : Shown) : Type 0 where
  pub by_bells : All IsAllByBells workers
  pub raises : t.raises ≡ s.raises ++ raises_in workers
  pub visits : t.taken ≡ s.taken + sum_by (λ w. w.new.visits) workers

-- the journal has a past and what these workers raised, each raise once and in order, and no other
-- raise. Each of them did nothing but visits to which bells called it; and so many visits were made,
-- by so many workers
pub record IsJournalByBells (past : List Raise) (workers : List WorkerRound) (count visits : ℕ)
    (journal : List Raise) : Type 0 where
  pub as_many : length workers ≡ count
  pub by_bells : All IsAllByBells workers
  pub journal_is : journal ≡ ordered (past ++ raises_in workers)
  pub visits_are : sum_by (λ w. w.new.visits) workers ≡ visits
