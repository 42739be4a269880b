-- The offices of the workers of a run, between two rounds.
use Rattle.std.specs.Prelude.{◌≡◌, ℕ, ◌-◌, ◌<◌, List, [], length, map, slice_index_or}
use Rattle.clr_net.specs.Net.{Net, of_cash}
use Rattle.bank_desk.specs.Desks.{with_cash_in}
use Rattle.bank_worker.specs.Offices.{IsOfficeFor, OfficeView, banks_of_worker}

-- the office of the worker i among so many
pub record Serves (net : Net) (workers i : ℕ) (o : OfficeView) : Type 0 where
  pub office : IsOfficeFor net (banks_of_worker net workers i) o
  pub worker : o.worker ≡ i

abbrev pub no_office : OfficeView
no_office = record {
  desks = [];
  worker = 0;
  creditors = [];
  marks = 0;
  room = 0;
}

abbrev pub office_at : List OfficeView → ℕ → OfficeView
office_at os k = slice_index_or os k no_office

-- the offices of the last n workers, the last worker's first
pub record AreOffices (net : Net) (workers n : ℕ) (os : List OfficeView) : Type 0 where
  pub as_many : length os ≡ n
  pub each : (k : ℕ) → k < n → Serves net workers (workers - 1 - k) (office_at os k)

-- the offices of all workers, the last worker's first
abbrev pub AreAllOffices : Net → ℕ → List OfficeView → Type 0
AreAllOffices net workers os = AreOffices net workers workers os

-- the offices of all workers on another network, which has the same banks but for their cash, in
-- the same places, and the same debts
pub record AreOfficesButCash (net : Net) (workers : ℕ) (os : List OfficeView) : Type 0 where
  pub other : Net
  pub banks : map (of_cash 0) net.banks ≡ map (of_cash 0) other.banks
  pub debts : net.debts ≡ other.debts
  pub offices : AreAllOffices other workers os

-- the same office, with the cash at its desks that their banks have in this network
abbrev pub with_cash_of : Net → OfficeView → OfficeView
with_cash_of net o = record o { desks = map (with_cash_in net) o.desks }
