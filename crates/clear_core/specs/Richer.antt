-- A network with more to pay from, and the same debts.
use Rattle.std.specs.Prelude.{◌≡◌, List, ℕ}
use Rattle.clr_net.specs.Amounts.{IsAtMost}
use Rattle.clr_net.specs.Net.{Net}
use Rattle.clear_core.specs.Clearing.{pay}

-- the second network has the same debts, and no bank pays less in it, whatever was paid
pub record IsRicher (net more : Net) : Type 0 where
  pub debts : more.debts ≡ net.debts
  pub pays : (P : List ℕ) → IsAtMost (pay net P) (pay more P)
