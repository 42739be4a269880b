-- What a seat and a board have in memory, beside what contracts see of them.
use Rattle.std.specs.Prelude.{◌≡◌, ℕ, ◌+◌, ◌%◌, ◌<◌, Bool, true, false, List, [], length, map}
use Rattle.std.specs.Prelude.{slice_index, slice_index_or}
use Rattle.clr_net.specs.Limits.{IsNetwork}
use Rattle.clr_net.specs.Net.{Net, debtor_of, debt_numbers}
use Rattle.pay_words.specs.declared.view.View.{View}
use Rattle.clear_core.specs.Raised.{is_marked}
use Rattle.pay_words.specs.Holding.{is_of_worker}
use Rattle.pay_words.specs.Sound.{IsSound}

-- What a seat has in memory of the values that are paid: the seat of a worker a list of its own,
-- and the master a list for each worker, and the debtor of each debt
pub record SeatMemory : Type 0 where
  pub own : List ℕ
  pub lists : List (List ℕ)
  pub debtors : List ℕ
  pub workers : ℕ
  pub worker : ℕ

-- what a seat has in memory, field by field
abbrev pub seat_memory : List ℕ → List (List ℕ) → List ℕ → ℕ → ℕ → SeatMemory
seat_memory own lists debtors workers worker = record {
  own = own;
  lists = lists;
  debtors = debtors;
  workers = workers;
  worker = worker;
}

-- the master's list for the worker of the bank b
abbrev pub list_for : SeatMemory → ℕ → List ℕ
list_for p b = slice_index_or p.lists (b % p.workers) []

-- the list has what is paid on the debt x
abbrev pub Tells : List ℕ → List ℕ → ℕ → Type 0
Tells list paid x = (x < length list) × (slice_index list x ≡ slice_index paid x)

-- The seat of a worker, which holds these banks and shows what is paid: it holds banks of its
-- worker alone, and its own list has what they pay
pub record HasOwn (net : Net) (banks : List Bool) (paid : List ℕ) (p : SeatMemory) : Type 0 where
  pub no_lists : p.lists ≡ []
  pub worker : p.worker < p.workers
  pub its_banks : (b : ℕ) → b < length net.banks
      → is_marked banks b ≡ is_of_worker p.workers p.worker b
  pub tells : (x : ℕ) → x < length net.debts → is_marked banks (debtor_of net x) ≡ true
      → Tells p.own paid x

-- the master: the list of each worker has what the banks of the worker pay that it holds
pub record HasAll (net : Net) (banks : List Bool) (paid : List ℕ) (p : SeatMemory) : Type 0 where
  pub lists : length p.lists ≡ p.workers
  pub debtors : p.debtors ≡ map (debtor_of net) (debt_numbers net)
  pub tells : (x : ℕ) → x < length net.debts → is_marked banks (debtor_of net x) ≡ true
      → Tells (list_for p (debtor_of net x)) paid x

-- what a seat has in memory, beside its view
pub record IsInMemory (v : View) (p : SeatMemory) (clock seats : ℕ) : Type 0 where
  pub live : v.live ≡ true
  pub sound : IsSound v.shown
  pub clock_is : clock ≡ v.shown.clock
  pub seats_are : seats ≡ v.shown.seats
  pub some_workers : 0 < p.workers
  pub at_worker : v.shown.master ≡ false → HasOwn v.shown.net v.shown.banks v.shown.paid p
  pub at_master : v.shown.master ≡ true → HasAll v.shown.net v.shown.banks v.shown.paid p

-- what a board has in memory, beside its words
pub record IsLaidOut (net : Net) (words slots debts workers : ℕ) : Type 0 where
  pub network : IsNetwork net
  pub words_are : words ≡ 1 + length net.debts + length net.banks
  pub no_slots : slots ≡ 0
  pub debts_are : debts ≡ length net.debts
  pub some_workers : 0 < workers
