-- The master between two rounds, and the workers of a round.
use Rattle.std.specs.Prelude.{◌≡◌, ◌≢◌, ◌⊎◌, ℕ, zero, suc, ◌+◌, ◌*◌, ◌%◌, ◌<◌, ◌≤◌, ◌++◌, true, false, List, [], ◌∷◌, length, sum, sum_by, slice_index}
use Rattle.pay_words.specs.Views.{Place}
use Rattle.clear_core.specs.Clearing.{least}
use Rattle.clr_net.specs.Amounts.{IsAtMost}
use Rattle.clr_net.specs.Limits.{IsNetwork}
use Rattle.clr_net.specs.Net.{Net, debtor_of, creditor_of}
use Rattle.bank_desk.specs.Desks.{desk_of}
use Rattle.pay_words.specs.declared.view.Shown.{Shown}
use Rattle.pay_words.specs.Views.{BoardView, IsAt, IsOver, HoldsAll, OwesNoRing, handed, holds, is_of_worker, without, is_marked, tabled}
use Rattle.clear_core.specs.declared.event.Raise.{Raise}
use Rattle.clear_core.specs.History.{Kept}
use Rattle.raise_journal.specs.Gathered.{HasGrownBy, raises_of_all as all_of}
use Rattle.settle.specs.declared.plan.Plan.{Plan}
use Rattle.settle.specs.Rounds.{AreRounded, worker_at}
use Rattle.bank_worker.specs.Views.{Divides, WorkerView, desks_held}
use Rattle.bank_worker.specs.Grows.{MAX_VISITS, SeatGrows}

-- between two rounds the master holds all banks, and nothing is pending or owes a ring; each bank
-- is fresh or pays its division at what was last seen; and the floor is what is paid
pub record IsBetween (net : Net) (s : Shown) : Type 0 where
  pub network : IsNetwork net
  pub net_is : s.net ≡ net
  pub master : s.master ≡ true
  pub over : IsOver s
  pub holds_all : HoldsAll s
  pub no_rings : (x : ℕ) → x < length net.debts → is_marked s.owes_ring x ≡ false
  pub calm : (x : ℕ) → x < length net.debts → is_marked s.pending x ≡ false
  pub rest : (b : ℕ) → b < length net.banks
      → (is_marked s.fresh b ≡ true) ⊎ Divides s (desk_of net b)
  pub floor : (x : ℕ) → x < length net.debts → slice_index s.floor x ≡ slice_index s.paid x

-- the master once it handed seats to the first n workers
abbrev pub without_first : ℕ → ℕ → Shown → Shown
without_first workers zero s = s
without_first workers (suc n) s = without workers n (without_first workers n s)

-- how many raises a worker made
abbrev pub raises_by : WorkerView → ℕ
raises_by w = length w.seat.shows.raises

-- the worker i as a round begins
abbrev pub opened_worker : ℕ → Place → Shown → ℕ → WorkerView
opened_worker workers table s i = record {
  seat = record { table = table; shows = handed workers i s };
  desks = desks_held (handed workers i s);
  worker = i;
  visits = 0;
  journal = [];
}

-- the first n of them
abbrev pub opened_workers : ℕ → Place → Shown → ℕ → List WorkerView
opened_workers workers table s n = tabled n (opened_worker workers table s)

-- the worker i of the board, whose seat may be taken back
pub record IsOfBoard (board : BoardView) (i : ℕ) (w : WorkerView) : Type 0 where
  pub at : IsAt board w.seat
  pub worker : w.worker ≡ i
  pub not_the_master : w.seat.shows.master ≡ false
  pub banks : w.seat.shows.banks
      ≡ tabled (length board.net.banks) (is_of_worker board.table.workers i)
  pub no_rings : OwesNoRing w.seat.shows
  pub by_bells : w.visits ≡ w.seat.shows.taken
  pub few_visits : w.visits ≤ MAX_VISITS

-- so is each of these, in the order of their numbers
abbrev pub AreOfBoard : BoardView → List WorkerView → Type 0
AreOfBoard board ws = (i : ℕ) → i < length ws → IsOfBoard board i (worker_at ws i)

-- what the worker of the bank b shows
abbrev pub shown_by : ℕ → List WorkerView → ℕ → Shown
shown_by workers ws b = (worker_at ws (b % workers)).seat.shows

-- the master that showed s, once the seats of the workers from n on were taken back
pub record IsBack (workers : ℕ) (net : Net) (s : Shown) (ws : List WorkerView) (t : Shown) (n : ℕ)
    : Type 0 where
  pub net_is : t.net ≡ net
  pub master : t.master ≡ s.master
  pub seats : t.seats ≡ s.seats
  pub held : (b : ℕ) → b < length net.banks → n ≤ b % workers → b % workers < length ws
      → holds t b ≡ true
  pub paid : (x : ℕ) → x < length net.debts
      → n ≤ debtor_of net x % workers → debtor_of net x % workers < length ws
      → slice_index t.paid x ≡ slice_index (shown_by workers ws (debtor_of net x)).paid x
  pub floor : (x : ℕ) → x < length net.debts
      → n ≤ debtor_of net x % workers → debtor_of net x % workers < length ws
      → slice_index t.floor x ≡ slice_index (shown_by workers ws (debtor_of net x)).paid x
  pub rings : (x : ℕ) → x < length net.debts
      → n ≤ debtor_of net x % workers → debtor_of net x % workers < length ws
      → is_marked t.owes_ring x ≡ is_marked (shown_by workers ws (debtor_of net x)).owes_ring x
  pub sights : (x : ℕ) → x < length net.debts
      → n ≤ creditor_of net x % workers → creditor_of net x % workers < length ws
      → slice_index t.sights x ≡ slice_index (shown_by workers ws (creditor_of net x)).sights x
  pub pending : (x : ℕ) → x < length net.debts
      → n ≤ creditor_of net x % workers → creditor_of net x % workers < length ws
      → is_marked t.pending x ≡ is_marked (shown_by workers ws (creditor_of net x)).pending x
  pub fresh : (b : ℕ) → b < length net.banks → n ≤ b % workers → b % workers < length ws
      → is_marked t.fresh b ≡ is_marked (shown_by workers ws b).fresh b

-- the raises of some workers, those of the last worker first
abbrev pub raised_by_all : List WorkerView → List Raise
raised_by_all [] = []
raised_by_all (w ∷ ws) = raised_by_all ws ++ w.seat.shows.raises

-- the workers of a round, from the master that shows s to the one that shows t: each was handed its
-- seat, and then did nothing but visits to which bells called it; all that was raised they raised,
-- all visits that are counted they made, and of each bank the master shows what its worker left
pub record IsRoundByVisits (net : Net) (plan : Plan) (units visits : ℕ) (s t : Shown) : Type 0 where
  pub table : Place
  pub workers : List WorkerView
  pub rounded : AreRounded plan.sweeps units
      (opened_workers plan.workers table s plan.workers) workers
  pub raises : t.raises ≡ s.raises ++ raised_by_all workers
  pub visits_are : visits ≡ sum_by (λ w. w.visits) workers
  pub back : IsBack plan.workers net (without_first plan.workers plan.workers s) workers t 0

-- a round that raised so many units by so many visits, from the master that shows s to the one that
-- shows t
pub record IsRoundOf (net : Net) (plan : Plan) (units visits : ℕ) (s t : Shown) : Type 0 where
  pub grown : SeatGrows units s t
  pub some_rose : units ≢ 0 → sum s.paid + 1 ≤ sum t.paid
  pub none_rose : units ≡ 0 → (x : ℕ) → x < length net.debts
      → slice_index t.paid x ≡ slice_index s.paid x
  pub divide : (b : ℕ) → b < length net.banks → Divides t (desk_of net b)
  pub seen : (x : ℕ) → x < length net.debts → slice_index s.paid x ≤ slice_index t.sights x
  pub visits_are : t.taken ≡ s.taken + visits
  pub visits_by_banks : visits ≤ plan.sweeps * length net.banks
  pub seats : t.seats ≡ s.seats + plan.workers
  pub paid_low : IsAtMost t.paid (least net)
  pub sights_low : IsAtMost t.sights (least net)
  pub by_visits : IsRoundByVisits net plan units visits s t

-- the raises of a journal, and after them those that wait, worker by worker
abbrev pub noted_in : List Raise → List Kept → List Raise
noted_in journal waiting = journal ++ all_of waiting

-- what was added to the one list is what was added to the other, and what waited; in some order
abbrev pub HaveGrownAlike : List Raise → List Kept → List Raise → List Raise → List Raise → Type 0
HaveGrownAlike old waiting new from to = (rs : List Raise) × HasGrownBy old new (all_of waiting ++ rs)
    × (to ≡ from ++ rs)
