-- Under payments that clear with costs, a bank pays out what it can of what it keeps, and no unit
-- is made.
use Rattle.std.proofs.Common.{◌≡◌, ℕ, ◌+◌, ◌≤◌, min, List, length, get_or, refl, sym, ap, ◌∙◌, arith}
use Rattle.clr_net.specs.Limits.{IsNetwork}
use Rattle.clr_net.specs.Net.{Net}
use Rattle.clear_core.specs.Buffers.{AreInLimit}
use Rattle.clear_core.specs.Clearing.{receipts, estate}
use Rattle.clear_core.proofs.Pay.{pay_by_within}
use Rattle.clear_core.proofs.Rows.{claim_in_limit}
use Rattle.cascade.specs.Standings.{owed_by, paid_by}
use Rattle.cascade.proofs.MoreCash.{pays_by}
use Rattle.cascade.proofs.PayingOut.{all_kept}
use Rattle.costs.specs.Costs.{cost_spend, CostClears}
use Rattle.costs.specs.CostStandings.{lost_by, cost_outside_paid, cost_equity, PaysFromKept, CostAddsUp}
use Rattle.costs.proofs.Keeping.{kept_le}
use Rattle.costs.proofs.CostPay.{length-cost_pay}

-- payments that clear have a place for each debt
pub cost_clearing_over : (net : Net) (k : ℕ) (P : List ℕ) → CostClears net k P
    → length P ≡ length net.debts
cost_clearing_over net k P c = sym (ap length c) ∙ length-cost_pay net k P

-- and are within the limit of one claim
pub cost_clearing_in_limit : (net : Net) (k : ℕ) (P : List ℕ) → IsNetwork net
    → CostClears net k P → AreInLimit P
cost_clearing_in_limit net k P network c x =
    let within = pay_by_within net (cost_spend net k) P x in
    omega (arith, ap (λ (R : List ℕ). get_or R x 0) c, claim_in_limit net x network)

module _ (net : Net) (k : ℕ) (P : List ℕ) (network : IsNetwork net) (figure : k ≤ 1000)
    (clears : CostClears net k P) where
  -- what a bank pays on its debts
  pub cost_paid_is : (i : ℕ)
      → paid_by net P i ≡ min (cost_spend net k i (receipts net P i)) (owed_by net i)
  cost_paid_is i =
      ap (λ Q. paid_by net Q i) (sym clears)
      ∙ pays_by net network net.banks (cost_spend net k) P i

  -- outside first, then on its debts, and no more than it keeps
  pub cost_pays_out : (i : ℕ) → PaysFromKept net k P i
  cost_pays_out i = record {
    debts = omega (arith, cost_paid_is i);
    within = omega (arith, cost_paid_is i);
    equity = λ p. omega (arith, cost_paid_is i, kept_le net k i (estate net P i) figure);
  }

  -- and no unit is made
  pub cost_adds_up : CostAddsUp net k P
  cost_adds_up =
      all_kept net network net.banks P
      (λ i. cost_equity net k P i + cost_outside_paid net k P i + lost_by net k P i) refl
      (λ i. omega (arith, cost_paid_is i, kept_le net k i (estate net P i) figure))
