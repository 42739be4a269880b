-- A lawful journal is within the limits of a journal file by which its network may be read.
use Rattle.std.proofs.Common.{◌≡◌, ℕ, suc, ◌+◌, ◌<◌, ◌≤◌, All, List, [], ◌∷◌, length, get_or, set, sum, ap, ◌∙◌, arith, length-set}
use Rattle.std.proofs.lemmas.List.{length-replicate}
use Rattle.std.proofs.lemmas.List.Elements.{All-cons, All-nil}
use Rattle.std.proofs.lemmas.List.Sums.{sum_by-set}
use Rattle.clr_net.specs.Limits.{IsNetwork}
use Rattle.clr_net.specs.Net.{Net, units_owed}
use Rattle.clr_net.specs.declared.TheConstants.{MAX_CLAIM}
use Rattle.clear_core.specs.Clearing.{least, zeros}
use Rattle.clear_core.specs.History.{Stands, StandsFrom, replayed, replayed_from}
use Rattle.clear_core.specs.declared.event.Raise.{Raise}
use Rattle.clear_core.proofs.Lawful.{stands_in_range}
use Rattle.clear_core.proofs.Pay.{pay_within}
use Rattle.clear_core.proofs.Rows.{claim_in_limit}
use Rattle.net_check.proofs.Within.{raises_allowed}
use Rattle.net_check.specs.Within.{IsWithin}
use Rattle.net_check.specs.declared.limits.Limits.{Limits}
use Rattle.raise_journal.specs.ReadBack.{IsInLimits}
use Rattle.settle.proofs.Quiet.{sum_low}

-- each raise lifts what is paid by a unit at least
grows_from : (net : Net) (stamp : ℕ) (P : List ℕ) (rs : List Raise) → length P ≡ length net.debts → All (λ r. r.debt.0 < length net.debts) rs → StandsFrom net stamp P rs
    → sum P + length rs ≤ sum (replayed_from P rs)
unfolding StandsFrom replayed_from
grows_from net stamp P [] size known h = omega arith
grows_from net stamp P (r ∷ rs) size known h =
    let x = r.debt.0 in
    let here : x < length net.debts = known 0 r (omega arith) in
    let more = sum_by-set (λ (n : ℕ). n) P x r.to 0 (omega (arith, here, size)) in
    let rest = grows_from net r.stamp (set P x r.to) rs (length-set P x r.to ∙ size) (λ k d lt. known (suc k) d (omega (arith, lt))) h.2 in
    omega (arith, more, rest, h.1.0)

-- no raise is above its claim
low_from : (net : Net) (stamp : ℕ) (P : List ℕ) (rs : List Raise) → IsNetwork net → StandsFrom net stamp P rs → All (λ r. r.to ≤ MAX_CLAIM) rs
unfolding StandsFrom
low_from net stamp P [] network h = All-nil _
low_from net stamp P (r ∷ rs) network h = All-cons (λ r. r.to ≤ MAX_CLAIM) r rs
    (omega (arith, h.1.1, pay_within net P r.debt.0, claim_in_limit net r.debt.0 network)) (low_from net r.stamp (set P r.debt.0 r.to) rs network h.2)

-- a journal that stands, pays the least and has low stamps is within the limits of its network
pub within_limits : (net : Net) (rs : List Raise) (paid : List ℕ) → IsNetwork net → Stands net rs → replayed net rs ≡ paid → paid ≡ least net
    → All (λ r. r.stamp ≤ sum paid) rs → (by : Limits) → IsWithin by net → IsInLimits by net rs
within_limits net rs paid network stands replays least_paid stamps by within =
    let low : sum paid ≤ units_owed net = omega (arith, sum_low net paid (λ x. omega (arith, ap (λ (P : List ℕ). get_or P x 0) least_paid))) in
    record {
      few = omega (arith, grows_from net 0 (zeros net) rs (length-replicate (length net.debts) 0) (stands_in_range net rs stands) stands, ap sum replays, low, within.owed, raises_allowed by);
      debts = stands_in_range net rs stands;
      stamps = λ k d lt. omega (arith, stamps k d lt, low, network.owed_in_limit);
      amounts = low_from net 0 (zeros net) rs network stands;
    }
