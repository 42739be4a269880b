-- With costs too there are greatest payments that clear: they are no more where less is kept, and
-- the old greatest where all is.
use Rattle.std.proofs.Common.{◌≡◌, ℕ, ◌≤◌, List, ap, subst, arith}
use Rattle.clr_net.specs.Amounts.{IsAtMost}
use Rattle.clr_net.specs.Net.{Net}
use Rattle.clear_core.specs.Clearing.{pay}
use Rattle.upper.specs.Bounds.{greatest}
use Rattle.upper.specs.Greatest.{greatest_by}
use Rattle.upper.proofs.Tops.{greatest_by_mono}
use Rattle.costs.specs.Costs.{cost_spend, cost_greatest}
use Rattle.costs.proofs.CostPay.{cost_spend_mono, cost_spend_never_falls, cost_spend_all}

-- where less is kept the greatest are nowhere greater
pub cost_greatest_mono : (net : Net) (j k : ℕ) → j ≤ k → k ≤ 1000
    → IsAtMost (cost_greatest net j) (cost_greatest net k)
cost_greatest_mono net j k m l =
    greatest_by_mono net (cost_spend net j) (cost_spend net k)
    (cost_spend_never_falls net j (omega arith)) (cost_spend_never_falls net k l)
    (cost_spend_mono net j k m l)

-- where all is kept they are the old ones
pub cost_greatest_all : (net : Net) → cost_greatest net 1000 ≡ greatest net
unfolding pay
cost_greatest_all net = ap (greatest_by net) (cost_spend_all net)

-- so the greatest with costs are nowhere greater than the greatest without
pub no_more_than_greatest : (net : Net) (k : ℕ) (P : List ℕ) → k ≤ 1000 → P ≡ cost_greatest net k
    → IsAtMost P (greatest net)
no_more_than_greatest net k P l e =
    rw e (subst (IsAtMost (cost_greatest net k)) (cost_greatest_all net)
    (cost_greatest_mono net k 1000 l (omega arith)))
