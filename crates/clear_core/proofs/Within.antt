-- What is paid is within the claims, and in all within what is owed.
use Rattle.std.proofs.Common.{ℕ, ◌≤◌, List, get_or, sum, ap, arith}
use Rattle.clr_net.specs.Amounts.{IsAtMost}
use Rattle.clr_net.specs.Limits.{IsNetwork}
use Rattle.clr_net.specs.Net.{Net, units_owed}
use Rattle.clr_net.specs.declared.TheConstants.{MAX_CLAIM}
use Rattle.clr_net.proofs.Lists.{sum-le}
use Rattle.clear_core.specs.Clearing.{least}
use Rattle.clear_core.specs.Quiet.{IsWithinClaims}
use Rattle.clear_core.proofs.Least.{least_clears}
use Rattle.clear_core.proofs.Pay.{pay_within, sum-pay_le}
use Rattle.clear_core.proofs.Rows.{claim_in_limit}

-- no debt is paid more than its claim in the least clearing payments
pub least_within : (net : Net) → IsWithinClaims net (least net)
least_within net x = omega (arith, ap (λ P. get_or P x 0) (least_clears net), pay_within net (least net) x)

-- nor more than a claim may be
pub least_in_limit : (net : Net) (x : ℕ) → IsNetwork net → get_or (least net) x 0 ≤ MAX_CLAIM
least_in_limit net x network = omega (arith, least_within net x, claim_in_limit net x network)

-- payments at or below the least are in all at most what is owed
pub sum_low : (net : Net) (P : List ℕ) → IsAtMost P (least net) → sum P ≤ units_owed net
sum_low net P low = omega (arith, sum-le P (least net) low, ap sum (least_clears net), sum-pay_le net (least net))
