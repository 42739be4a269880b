-- Which payments of those that clear are made changes no equity, and nothing that is paid outside.
use Rattle.std.proofs.Common.{◌≡◌, ℕ, ◌+◌, ◌-◌, ◌<◌, ◌≤◌, List, length, get_or, sym, ◌∙◌, arith}
use Rattle.std.proofs.lemmas.List.FromFn.{get_or-range_with_len, length-range_with_len}
use Rattle.clr_net.specs.Amounts.{IsAtMost}
use Rattle.clr_net.specs.Limits.{IsNetwork}
use Rattle.clr_net.specs.Net.{Net}
use Rattle.clear_core.specs.Clearing.{estate, least, Clears}
use Rattle.clear_core.proofs.Least.{least_rounds, least_clears}
use Rattle.clear_core.proofs.Pay.{receipts_mono}
use Rattle.cascade.specs.Standings.{bank_numbers, due, equity, outside_paid}
use Rattle.cascade.proofs.Sums.{same_terms}
use Rattle.cascade.proofs.PayingOut.{paid_is, adds_up}

-- a bank keeps what it has above all it owes
pub equity_is : (net : Net) (P : List ℕ) → IsNetwork net → Clears net P → (i : ℕ)
    → equity net P i ≡ estate net P i - due net i
equity_is net P network c i = omega (arith, paid_is net P network c i)

-- no bank has less where more is paid
pub estate_mono : (net : Net) (P Q : List ℕ) (i : ℕ) → IsAtMost P Q → estate net P i ≤ estate net Q i
estate_mono net P Q i h = omega (arith, receipts_mono net P Q i h)

-- so where more is paid all keep and pay outside no less, and all together the same: each the same
pub same_equities : (net : Net) (P Q : List ℕ) → IsNetwork net → Clears net P → Clears net Q → IsAtMost P Q
    → (i : ℕ) → i < length net.banks
    → (equity net P i ≡ equity net Q i) × (outside_paid net P i ≡ outside_paid net Q i)
same_equities net P Q network p q h i l =
    let kept = λ (R : List ℕ) (j : ℕ). equity net R j + outside_paid net R j in
    let rises : (j : ℕ) → kept P j ≤ kept Q j =
    λ j. omega (arith, equity_is net P network p j, equity_is net Q network q j, estate_mono net P Q j h) in
    let here : get_or (bank_numbers net) i 0 ≡ i =
    omega (arith, get_or-range_with_len 0 (length net.banks) i 0 l) in
    let same : kept P i ≡ kept Q i = rw here at (same_terms (kept P) (kept Q) (bank_numbers net)
    rises (omega (arith, (adds_up net P network p).equities, (adds_up net Q network q).equities)) i
    (omega (arith, length-range_with_len 0 (length net.banks)))) in
    let less = equity_is net P network p i in
    let more = equity_is net Q network q i in
    let rise = estate_mono net P Q i h in
    (omega arith, omega arith)

-- and all that clear are at least the least
pub equities_are_one : (net : Net) (P Q : List ℕ) → IsNetwork net → Clears net P → Clears net Q
    → (i : ℕ) → i < length net.banks
    → (equity net P i ≡ equity net Q i) × (outside_paid net P i ≡ outside_paid net Q i)
equities_are_one net P Q network p q i l =
    let least_of = least_rounds net in
    let first = same_equities net (least net) P network (least_clears net) p (least_of.least P p) i l in
    let second = same_equities net (least net) Q network (least_clears net) q (least_of.least Q q) i l in
    (sym first.0 ∙ second.0, sym first.1 ∙ second.1)
