-- What contracts see of a worker.
use Rattle.std.specs.Prelude.{◌≡◌, ℕ, false, List, [], filter, length, map, sum_by, slice_index}
use Rattle.std.specs.Prelude.{slice_index_or}
use Rattle.std.specs.List.{range_with_len}
use Rattle.clr_net.specs.declared.rule.RuleKind.TheVariants as kind
use Rattle.clear_core.specs.declared.event.Raise.{Raise}
use Rattle.bank_desk.specs.Desks.{BankView, desk_of, target}
use Rattle.pay_words.specs.declared.view.Shown.{Shown}
use Rattle.pay_words.specs.Views.{BoardView, IsAt, IsOver, SeatView, holds}

-- a worker: its seat, its desks, its number, how many visits it made, and its journal
pub record WorkerView : Type 0 where
  pub seat : SeatView
  pub desks : List BankView
  pub worker : ℕ
  pub visits : ℕ
  pub journal : List Raise

-- the seat is that of a worker of this board, and each of its lists has a place for each bank, or
-- for each debt
pub record IsWorking (board : BoardView) (seat : SeatView) : Type 0 where
  pub at : IsAt board seat
  pub not_the_master : seat.shows.master ≡ false
  pub over : IsOver seat.shows

-- the banks that a seat holds, in file order
abbrev pub banks_held : Shown → List ℕ
banks_held s = filter (holds s) (range_with_len 0 (length s.net.banks))

-- a desk for each bank that the seat holds, in file order
abbrev pub desks_held : Shown → List BankView
desks_held s = map (desk_of s.net) (banks_held s)

-- the desk of no bank
abbrev pub no_desk : BankView
no_desk = record {
  bank = 0;
  cash = 0;
  outside = 0;
  rule = kind.Order;
  debts_out = [];
  claims = [];
  classes = [];
  debts_in = [];
}

-- the banks of some desks
abbrev pub banks_of : List BankView → List ℕ
banks_of desks = map (λ d. d.bank) desks

-- the desk in the place k, and that of no bank past the last one
abbrev pub desk_at : List BankView → ℕ → BankView
desk_at desks k = slice_index_or desks k no_desk

-- what a desk's bank pays, in all
abbrev pub paid_by : Shown → BankView → ℕ
paid_by s desk = sum_by (slice_index s.paid) desk.debts_out

-- what all banks of these desks pay
abbrev pub paid_by_all : Shown → List BankView → ℕ
paid_by_all s desks = sum_by (paid_by s) desks

-- the bank pays what its rule gives from its cash and so many units, less what it owes outside
abbrev pub DividesOf : ℕ → Shown → BankView → Type 0
DividesOf received s desk = map (slice_index s.paid) desk.debts_out ≡ target desk received

-- so it does of what the seat last saw
abbrev pub Divides : Shown → BankView → Type 0
Divides s desk = DividesOf (sum_by (slice_index s.sights) desk.debts_in) s desk
