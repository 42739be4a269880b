-- Banks that are short get their wave, one after another.
use Rattle.std.proofs.Common.{◌≡◌, ◌≢◌, ℕ, ◌<◌, ◌≤◌, List, length, get_or}
use Rattle.clr_net.specs.declared.debt.BankId.{BankId}
use Rattle.clr_net.specs.Net.{Net}
use Rattle.clear_core.specs.Clearing.{estate}
use Rattle.cascade.specs.Standings.{due}
use Rattle.upper.specs.Falls.{bank_at}

-- so it is with the first j banks of a list; what was changed was changed to this round
pub record AreMarkedAmong (net : Net) (P : List ℕ) (round : ℕ) (banks : List BankId)
    (before now : List ℕ) (j : ℕ) : Type 0 where
  pub as_many : length now ≡ length before
  pub short : (k : ℕ) → k < j → get_or before (bank_at banks k) 0 ≡ 0
      → estate net P (bank_at banks k) < due net (bank_at banks k)
      → get_or now (bank_at banks k) 0 ≡ round
  pub enough : (i : ℕ) → due net i ≤ estate net P i → get_or now i 0 ≡ get_or before i 0
  pub had : (i : ℕ) → get_or before i 0 ≢ 0 → get_or now i 0 ≡ get_or before i 0
  pub only : (i : ℕ) → get_or now i 0 ≢ get_or before i 0 → get_or now i 0 ≡ round
