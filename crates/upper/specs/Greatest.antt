-- The greatest payments that clear, by whatever banks divide: they are come to from above.
use Rattle.std.specs.Prelude.{◌≡◌, ℕ, List}
use Rattle.clr_net.specs.Amounts.{IsAtMost}
use Rattle.clr_net.specs.Claims.{all_claims}
use Rattle.clr_net.specs.Net.{Net, units_owed}
use Rattle.clear_core.specs.Rounds.{rounds_of}
use Rattle.clear_least.specs.Paying.{pay_by}

-- the greatest payments that clear by f: on which all banks, which pay f of what was paid, pay just
-- them, and above which no such payments are anywhere
pub record IsGreatestOf (f : List ℕ → List ℕ) (P : List ℕ) : Type 0 where
  pub clears : f P ≡ P
  pub greatest : (Q : List ℕ) → f Q ≡ Q → IsAtMost Q P

-- the greatest payments that clear where the bank i divides f i r among its debts when it receives
-- r units
abbrev pub IsGreatestBy : Net → (ℕ → ℕ → ℕ) → List ℕ → Type 0
IsGreatestBy net f = IsGreatestOf (pay_by net f)

-- the payments after n rounds from all debts paid in full, in each of which all banks pay at once
abbrev pub falling_by : Net → (ℕ → ℕ → ℕ) → ℕ → List ℕ
falling_by net f = rounds_of (pay_by net f) (all_claims net)

-- the payments after as many rounds as units are owed: the greatest that clear, where f never
-- falls, as the law `greatest_by_is_greatest` says
abbrev pub greatest_by : Net → (ℕ → ℕ → ℕ) → List ℕ
greatest_by net f = falling_by net f (units_owed net)
