-- What all banks pay at once with costs: it rises with what was paid and with the part that is
-- kept.
use Rattle.std.proofs.Common.{◌≡◌, ℕ, ◌+◌, ◌-◌, ◌≤◌, List, length, ap, ◌∙◌, arith}
use Rattle.clr_net.specs.Amounts.{IsAtMost}
use Rattle.clr_net.specs.Net.{Net, cash_of, outside_of}
use Rattle.clear_core.specs.Clearing.{spend, RisesTo, NeverFalls, pay_by, pay}
use Rattle.clear_core.proofs.Pay.{length-pay_by, pay_by_mono, pay_by_spend}
use Rattle.costs.specs.Costs.{cost_spend, cost_pay}
use Rattle.costs.proofs.Keeping.{kept_mono, kept_all}

-- no bank divides less as its receipts grow, or as more is kept
pub cost_spend_mono : (net : Net) (j k : ℕ) → j ≤ k → k ≤ 1000
    → RisesTo (cost_spend net j) (cost_spend net k)
cost_spend_mono net j k m l i r s h =
    omega (arith, kept_mono net j k i (cash_of net i + r) (cash_of net i + s) m l (omega arith))

-- greater receipts give every bank no less to divide, at any part that is kept
pub cost_spend_never_falls : (net : Net) (k : ℕ) → k ≤ 1000 → NeverFalls (cost_spend net k)
cost_spend_never_falls net k l = cost_spend_mono net k k (omega arith) l

-- one payment for each debt
pub length-cost_pay : (net : Net) (k : ℕ) (P : List ℕ)
    → length (cost_pay net k P) ≡ length net.debts
length-cost_pay net k = length-pay_by net (cost_spend net k)

-- no payment falls as what was paid grows, or as more is kept
pub cost_pay_mono : (net : Net) (j k : ℕ) (P Q : List ℕ) → j ≤ k → k ≤ 1000 → IsAtMost P Q
    → IsAtMost (cost_pay net j P) (cost_pay net k Q)
cost_pay_mono net j k P Q m l h =
    pay_by_mono net (cost_spend net j) (cost_spend net k) P Q (cost_spend_mono net j k m l) h

-- where all is kept banks divide, and so pay, as where default costs nothing
pub cost_spend_all : (net : Net) → cost_spend net 1000 ≡ spend net
cost_spend_all net = λ at i r. ap (λ e. e - outside_of net i) (kept_all net i (cash_of net i + r)) at

-- where default costs nothing, payments with costs are those without
pub cost_pay_all : (net : Net) (P : List ℕ) → cost_pay net 1000 P ≡ pay net P
cost_pay_all net P = ap (λ f. pay_by net f P) (cost_spend_all net) ∙ pay_by_spend net P
