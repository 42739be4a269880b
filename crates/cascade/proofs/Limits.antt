-- What payments that clear are within.
use Rattle.std.proofs.Common.{◌≡◌, ℕ, ◌≤◌, List, length, get_or, sym, ap, ◌∙◌, arith}
use Rattle.std.proofs.lemmas.List.Sums.{sum_by-le-sum_by}
use Rattle.clr_net.specs.Limits.{IsNetwork}
use Rattle.clr_net.specs.Net.{Net, column, claim_of}
use Rattle.clear_core.specs.Buffers.{AreInLimit}
use Rattle.clear_core.specs.Clearing.{estate, Clears}
use Rattle.clear_core.proofs.Pay.{length-pay, pay_within}
use Rattle.clear_core.proofs.Rows.{claim_in_limit}
use Rattle.cascade.specs.Standings.{worth}

-- payments that clear have a place for each debt
pub clearing_over : (net : Net) (P : List ℕ) → Clears net P → length P ≡ length net.debts
clearing_over net P c = sym (ap length c) ∙ length-pay net P

-- they are within the claims
pub clearing_within : (net : Net) (P : List ℕ) → Clears net P → (x : ℕ) → get_or P x 0 ≤ claim_of net x
clearing_within net P c x = omega (arith, ap (λ (R : List ℕ). get_or R x 0) c, pay_within net P x)

-- and so within the limit of one claim
pub clearing_in_limit : (net : Net) (P : List ℕ) → IsNetwork net → Clears net P → AreInLimit P
clearing_in_limit net P network c x = omega (arith, clearing_within net P c x, claim_in_limit net x network)

-- no bank has more under them than if all its debtors paid it in full
pub estate_le_worth : (net : Net) (P : List ℕ) → Clears net P → (i : ℕ) → estate net P i ≤ worth net i
estate_le_worth net P c i =
    let received = sum_by-le-sum_by (λ x. get_or P x 0) (claim_of net) (column net i)
    (clearing_within net P c) in
    omega arith
