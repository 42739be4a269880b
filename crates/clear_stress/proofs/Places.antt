-- The least payments as a list over the debts.
use Rattle.std.proofs.Common.{◌≡◌, length}
use Rattle.cascade.proofs.Limits.{clearing_over}
use Rattle.clear_core.proofs.Least.{least_clears}
use Rattle.clear_core.specs.Clearing.{least}
use Rattle.clr_net.specs.Net.{Net}

-- the least payments have a place for each debt
pub least_places : (net : Net) → length (least net) ≡ length net.debts
least_places net = clearing_over net (least net) (least_clears net)
