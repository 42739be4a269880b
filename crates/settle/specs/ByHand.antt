-- A round whose seats a caller hands out and takes back.
use Rattle.std.specs.Prelude.{ℕ, zero, suc, ◌-◌, List}
use Rattle.bank_worker.specs.Views.{WorkerView}
use Rattle.pay_words.specs.declared.view.Shown.{Shown}
use Rattle.pay_words.specs.Views.{rejoined}
use Rattle.settle.specs.Between.{without_first}
use Rattle.settle.specs.Rounds.{worker_at}

-- the master once the seats of the last k of n workers were taken back, the last first
abbrev pub with_last : List WorkerView → ℕ → ℕ → Shown → Shown
with_last ws n zero s = s
with_last ws n (suc k) s = rejoined (with_last ws n k s) (worker_at ws (n - suc k)).seat.shows

-- the master that handed a seat to each of n workers, and took all seats back
abbrev pub after_round : ℕ → List WorkerView → Shown → Shown
after_round n ws s = with_last ws n n (without_first n n s)
