-- When a bell is down, and when the banks of a worker are at rest.
use Rattle.std.specs.Prelude.{◌≡◌, ◌⊎◌, ℕ, ◌<◌, true, false, List, length}
use Rattle.bank_desk.specs.Desks.{BankView}
use Rattle.pay_words.specs.declared.view.Shown.{Shown}
use Rattle.pay_words.specs.Views.{HasSeenFloor, IsCalm, holds, is_marked}
use Rattle.bank_worker.specs.Views.{Divides, desk_at}

-- the bell of the bank b is down: it was taken before, and the floor was seen if nothing is pending
pub record IsDown (s : Shown) (b : ℕ) : Type 0 where
  pub taken : is_marked s.fresh b ≡ false
  pub seen : IsCalm s b → HasSeenFloor s b

-- nothing that the seat shows of its banks is pending
abbrev pub IsAllCalm : Shown → Type 0
IsAllCalm s = (b : ℕ) → b < length s.net.banks → holds s b ≡ true → IsCalm s b

-- each bank of these desks is fresh, or pays its division at what was last seen
abbrev pub MayRest : Shown → List BankView → Type 0
MayRest s desks = (k : ℕ) → k < length desks
    → (is_marked s.fresh (desk_at desks k).bank ≡ true) ⊎ Divides s (desk_at desks k)

-- each bank of these desks pays its division at what was last seen, which is at least the floor
pub record AreAtRest (s : Shown) (desks : List BankView) : Type 0 where
  pub divide : (k : ℕ) → k < length desks → Divides s (desk_at desks k)
  pub seen : (k : ℕ) → k < length desks → HasSeenFloor s (desk_at desks k).bank
