-- What the ruin of a bank costs, and whom.
use Rattle.std.specs.Prelude.{◌≡◌, ℕ, ◌-◌, sum_by}
use Rattle.clr_net.specs.Net.{Net, cash_of, with_cash}
use Rattle.clear_core.specs.Clearing.{least}
use Rattle.cascade.specs.MoreCash.{NobodyLoses}
use Rattle.cascade.specs.Standings.{bank_numbers, kept}

-- the network once the bank i has lost all its cash
abbrev pub hit : Net → ℕ → Net
hit net i = with_cash net i 0

-- what the bank j keeps less then, under the least payments that clear each network
abbrev pub kept_less : Net → ℕ → ℕ → ℕ
kept_less net i j = kept net (least net) j - kept (hit net i) (least (hit net i)) j

-- what the ruin of the bank i costs: nobody gains by it, and all that banks keep less is exactly
-- the cash that was lost
pub record CostsItsCash (net : Net) (i : ℕ) : Type 0 where
  pub nobody_gains : NobodyLoses (hit net i) net
  pub all : sum_by (kept_less net i) (bank_numbers net) ≡ cash_of net i
