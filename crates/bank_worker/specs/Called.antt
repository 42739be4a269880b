-- What is said of banks that are called, since their bells may be up, and of those that are not.
use Rattle.std.specs.Prelude.{◌≡◌, ℕ, ◌<◌, ◌++◌, true, false, List, length, slice_index}
use Rattle.clr_net.specs.Net.{Net, creditor_of}
use Rattle.clear_core.specs.declared.event.Raise.{Raise}
use Rattle.bank_desk.specs.Desks.{BankView}
use Rattle.pay_words.specs.declared.view.Shown.{Shown}
use Rattle.pay_words.specs.Views.{HasSeenFloor, holds}
use Rattle.bank_worker.specs.BankSets.{is_in}
use Rattle.bank_worker.specs.Raises.{IsRaisedIn, debts_of}
use Rattle.bank_worker.specs.Views.{Divides, WorkerView, desk_at}

-- the bank of the desk pays its division at what was last seen, which is at least the floor
pub record IsAtRest (s : Shown) (desk : BankView) : Type 0 where
  pub divides : Divides s desk
  pub seen : HasSeenFloor s desk.bank

-- each bank of these desks is called, or it is at rest
abbrev pub AreCalledOrAtRest : List ℕ → Shown → List BankView → Type 0
AreCalledOrAtRest called s desks = (k : ℕ) → k < length desks
    → is_in called (desk_at desks k).bank ≡ false → IsAtRest s (desk_at desks k)

-- each bank that was called and that the seat does not hold is called still
abbrev pub KeepsOthers : Shown → List ℕ → List ℕ → Type 0
KeepsOthers s old new = (b : ℕ) → holds s b ≡ false → is_in old b ≡ true → is_in new b ≡ true

-- no bank was taken away
abbrev pub StayIn : List ℕ → List ℕ → Type 0
StayIn old new = (b : ℕ) → is_in old b ≡ true → is_in new b ≡ true

-- of the first n raises, the bank that a list has for the debt is called
abbrev pub AreCalledTo : List ℕ → List ℕ → List Raise → ℕ → Type 0
AreCalledTo creditors called rs n = (x : ℕ) → x < length creditors → (j : ℕ) → j < n
    → slice_index (debts_of rs) j ≡ x → is_in called (slice_index creditors x) ≡ true

-- the creditor of each debt of these raises is called
abbrev pub AreCreditorsIn : Net → List ℕ → List Raise → Type 0
AreCreditorsIn net called rs = (x : ℕ) → x < length net.debts → IsRaisedIn rs x
    → is_in called (creditor_of net x) ≡ true

-- the journal grew by some raises, and the creditor of each of their debts is called, if the seat
-- does not hold it
pub record CallsOthers (old new : WorkerView) (called : List ℕ) : Type 0 where
  pub made : List Raise
  pub grew : new.journal ≡ old.journal ++ made
  pub rung : (x : ℕ) → x < length old.seat.shows.net.debts → IsRaisedIn made x
      → holds old.seat.shows (creditor_of old.seat.shows.net x) ≡ false
      → is_in called (creditor_of old.seat.shows.net x) ≡ true
