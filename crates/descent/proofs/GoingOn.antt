-- A clearing goes on for a part of a share of networks.
use Rattle.std.proofs.Common.{◌≡◌, ℕ, ◌<◌, ◌≤◌, List, Bool, get_or, length, ◌∙◌, sym, subst, arith}
use Rattle.std.specs.Bool.{OnFalse}
use Rattle.std.proofs.lemmas.Bool.{OnFalse_at}
use Rattle.clr_net.specs.Net.{Net, cash_of}
use Rattle.clear_core.specs.Clearing.{least, spend}
use Rattle.clear_core.specs.Raised.{is_marked}
use Rattle.clear_core.proofs.Pay.{spend_mono}
use Rattle.clear_least.specs.Sweeps.{IsSwept}
use Rattle.cascade.specs.MoreCash.{GoesOn}
use Rattle.cascade.proofs.GoingOn.{goes_on}
use Rattle.cascade.proofs.OtherCash.{as_many_alike}
use Rattle.descent.specs.Cashes.{AreFloors, IsCashOf, with_cashes}
use Rattle.descent.proofs.Cashes.{alike_with_cashes, cash_with_cashes, more_with_cashes}

-- in a part of a share no bank has less
pub goes_on_for_part : (net : Net) (floor : ℕ → ℕ → ℕ → ℕ) → AreFloors floor → (low high a b : ℕ)
    → low ≤ a → a < b → b ≤ high
    → GoesOn (with_cashes net (floor low high)) (with_cashes net (floor a b))
goes_on_for_part net floor rises low high a b l some h =
    goes_on (with_cashes net (floor low high)) (with_cashes net (floor a b))
    (more_with_cashes net (floor low high) (floor a b) (λ i. rises low high a b i l some h))

-- and only the banks that have other cash need to pay at first
pub swept_for_part : (net : Net) (floor : ℕ → ℕ → ℕ → ℕ) → AreFloors floor → (low high a b : ℕ)
    → low ≤ a → a < b → b ≤ high → (marks : List Bool) → length marks ≡ length net.banks
    → ((i : ℕ) → i < length net.banks → OnFalse (is_marked marks i)
    (floor low high i ≡ cash_of (with_cashes net (floor a b)) i))
    → IsSwept (with_cashes net (floor a b)) (spend (with_cashes net (floor a b)))
    (least (with_cashes net (floor low high))) marks
swept_for_part net floor rises low high a b l some h marks over same =
    let before = with_cashes net (floor low high) in
    let after = with_cashes net (floor a b) in
    let on = goes_on_for_part net floor rises low high a b l some h in
    let as_many = as_many_alike net after (alike_with_cashes net (floor a b)) in
    record {
      never = spend_mono after;
      way = on.way;
      for_each_bank = over ∙ sym as_many;
      unmarked = λ i m e.
          let within : i < length net.banks = omega (arith, as_many) in
          on.quiet i (cash_with_cashes net (floor low high) i within ∙ OnFalse_at e (same i within));
    }

-- where a list has the cash of a share, and unmarked banks have by it what they have in a part, they have the same in both
pub same_in_part : (net : Net) (floor : ℕ → ℕ → ℕ → ℕ) (low high a b : ℕ) (had : List ℕ) (laid : Net) (marks : List Bool)
    → laid ≡ with_cashes net (floor a b) → IsCashOf (with_cashes net (floor low high)) had
    → ((i : ℕ) → i < length laid.banks → OnFalse (is_marked marks i) (get_or had i 0 ≡ cash_of laid i))
    → (i : ℕ) → i < length net.banks → OnFalse (is_marked marks i)
    (floor low high i ≡ cash_of (with_cashes net (floor a b)) i)
same_in_part net floor low high a b had laid marks is cash same i l =
    let before = with_cashes net (floor low high) in
    let now = with_cashes net (floor a b) in
    let in_now : i < length now.banks = omega (arith, l, as_many_alike net now (alike_with_cashes net (floor a b))) in
    let in_before : i < length before.banks = omega (arith, l, as_many_alike net before (alike_with_cashes net (floor low high))) in
    let told : get_or had i 0 ≡ floor low high i = cash.each i in_before ∙ cash_with_cashes net (floor low high) i l in
    subst (λ v. OnFalse (is_marked marks i) (v ≡ cash_of now i)) told (rw is at same i in_now)
