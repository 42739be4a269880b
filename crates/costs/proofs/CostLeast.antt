-- With costs too there are least payments that clear: they are no more where less is kept, and the
-- old least where all is.
use Rattle.std.proofs.Common.{◌≡◌, ℕ, ◌≤◌, List, ap, subst, arith}
use Rattle.clr_net.specs.Amounts.{IsAtMost}
use Rattle.clr_net.specs.Net.{Net}
use Rattle.clear_core.specs.Clearing.{least_by, pay, rounds, least}
use Rattle.clear_core.proofs.Least.{least_by_mono, least_by_only}
use Rattle.costs.specs.Costs.{cost_spend, IsCostLeast, cost_least}
use Rattle.costs.proofs.CostPay.{cost_spend_mono, cost_spend_never_falls, cost_spend_all}

-- there is one least
pub cost_least_only : (net : Net) (k : ℕ) (P : List ℕ) → k ≤ 1000 → IsCostLeast net k P
    → P ≡ cost_least net k
cost_least_only net k P l = least_by_only net (cost_spend net k) (cost_spend_never_falls net k l) P

-- where less is kept the least are nowhere greater
pub cost_least_mono : (net : Net) (j k : ℕ) → j ≤ k → k ≤ 1000
    → IsAtMost (cost_least net j) (cost_least net k)
cost_least_mono net j k m l =
    least_by_mono net (cost_spend net j) (cost_spend net k)
    (cost_spend_never_falls net j (omega arith)) (cost_spend_never_falls net k l)
    (cost_spend_mono net j k m l)

-- where all is kept they are the old ones
pub cost_least_all : (net : Net) → cost_least net 1000 ≡ least net
unfolding pay rounds
cost_least_all net = ap (least_by net) (cost_spend_all net)

-- so the least with costs are nowhere greater than the least without
pub no_more_than_least : (net : Net) (k : ℕ) (P : List ℕ) → k ≤ 1000 → P ≡ cost_least net k
    → IsAtMost P (least net)
no_more_than_least net k P l e =
    rw e (subst (IsAtMost (cost_least net k)) (cost_least_all net)
    (cost_least_mono net k 1000 l (omega arith)))
