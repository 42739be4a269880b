-- Payments on the way to the least: what bounds them, and what leads on.
use Rattle.std.proofs.Common.{◌≡◌, ℕ, ◌<◌, ◌≤◌, List, length, get_or, sum, refl, sym, ap, ◌∙◌, arith}
use Rattle.std.proofs.lemmas.List.{ext_get_or}
use Rattle.clr_net.specs.Amounts.{IsAtMost}
use Rattle.clr_net.specs.Limits.{IsNetwork}
use Rattle.clr_net.specs.Net.{Net, debtor_of, units_owed}
use Rattle.clr_net.proofs.Lists.{sum-le}
use Rattle.clear_core.specs.Buffers.{AreInLimit}
use Rattle.clear_core.specs.Clearing.{NeverFalls, pay_by, least_by, IsOnWayBy}
use Rattle.clear_core.proofs.Least.{least_by_is}
use Rattle.clear_core.proofs.Pay.{length-pay_by, pay_by_mono, pay_by_within, sum-pay_by_le}
use Rattle.clear_core.proofs.Rows.{claim_in_limit}

module _ (net : Net) (f : ℕ → ℕ → ℕ) (P : List ℕ) (way : IsOnWayBy net f P) where
  -- no payment is above the limit of a claim
  pub way_in_limit : IsNetwork net → AreInLimit P
  way_in_limit network x =
      omega (arith, way.rises x, pay_by_within net f P x, claim_in_limit net x network)

  -- and all together are no more than is owed
  pub way_within_owed : sum P ≤ units_owed net
  way_within_owed = omega (arith, sum-le P (pay_by net f P) way.rises, sum-pay_by_le net f P)

  -- payments that are no less, and no more than all banks would pay at once, are on the way too
  pub way_on : (Q : List ℕ) → NeverFalls f → length Q ≡ length P → IsAtMost P Q
      → IsAtMost Q (pay_by net f P) → IsOnWayBy net f Q
  way_on Q never over no_less no_more = record {
    as_many = over ∙ way.as_many;
    rises = λ x. omega (arith, no_more x, pay_by_mono net f f P Q never no_less x);
    below = λ x. omega (
      arith,
      no_more x,
      pay_by_mono net f f P (least_by net f) never way.below x,
      ap (λ (R : List ℕ). get_or R x 0) (least_by_is net f never).clears,
    );
  }

-- payments on all debts of which each bank pays its own as in a round of all banks are that round
pub all_paid : (net : Net) (f : ℕ → ℕ → ℕ) (P Q : List ℕ) → IsNetwork net
    → length Q ≡ length net.debts
    → ((i : ℕ) → i < length net.banks → (x : ℕ) → x < length net.debts → debtor_of net x ≡ i
    → get_or Q x 0 ≡ get_or (pay_by net f P) x 0)
    → Q ≡ pay_by net f P
all_paid net f P Q network over h =
    ext_get_or 0 Q (pay_by net f P) (over ∙ sym (length-pay_by net f P)) (λ x l.
    let in_range : x < length net.debts = omega (arith, over) in
    h (debtor_of net x) (network.each_debt x in_range).debtor_known x in_range refl)
