-- Which banks are called between two rounds, and while workers go one after another.
use Rattle.std.specs.Prelude.{◌≡◌, ◌≢◌, ℕ, ◌<◌, ◌≤◌, false, List, length}
use Rattle.clr_net.specs.Net.{Net}
use Rattle.bank_desk.specs.Desks.{desk_of}
use Rattle.bank_worker.specs.BankSets.{is_in}
use Rattle.bank_worker.specs.Called.{AreCalledOrAtRest, AreCreditorsIn, IsAtRest}
use Rattle.bank_worker.specs.Views.{WorkerView, desk_at}
use Rattle.pay_words.specs.declared.view.Shown.{Shown}
use Rattle.pay_words.specs.Views.{holds}
use Rattle.settle.specs.Rounds.{worker_at}

-- each bank of the network that is not called is at rest
abbrev pub OthersAreAtRest : Net → List ℕ → Shown → Type 0
OthersAreAtRest net called s = (b : ℕ) → b < length net.banks → is_in called b ≡ false
    → IsAtRest s (desk_of net b)

-- each bank of each worker is called, or it is at rest
abbrev pub AllCalledOrAtRest : List ℕ → List WorkerView → Type 0
AllCalledOrAtRest called ws = (i : ℕ) → i < length ws
    → AreCalledOrAtRest called (worker_at ws i).seat.shows (worker_at ws i).desks

-- no worker holds a bank of another
abbrev pub AreApart : List WorkerView → Type 0
AreApart ws = (i j : ℕ) → i < length ws → j < length ws → i ≢ j
    → (k : ℕ) → k < length (worker_at ws j).desks
    → holds (worker_at ws i).seat.shows (desk_at (worker_at ws j).desks k).bank ≡ false

-- the creditor of each debt that the workers from n on raised is called
abbrev pub HaveCalledFrom : ℕ → Net → List ℕ → List WorkerView → Type 0
HaveCalledFrom n net called ws = (i : ℕ) → n ≤ i → i < length ws
    → AreCreditorsIn net called (worker_at ws i).seat.shows.raises
