-- One unit more at a bank is kept once, and goes round exactly where the bank passes it on.
use Rattle.std.proofs.Common.{◌≡◌, ℕ, ◌+◌, ◌<◌, ◌≤◌, min, List, length, sum, sum_by, inl, inr, refl, sym, ap, ◌∙◌, subst, ⊎_elim, arith}
use Rattle.std.specs.List.{range_with_len}
use Rattle.std.proofs.lemmas.Bool.{cases_lt}
use Rattle.clr_net.specs.declared.bank.Bank.{Bank}
use Rattle.clr_net.specs.Limits.{IsNetwork}
use Rattle.clr_net.specs.Net.{Net, cash_of}
use Rattle.clr_net.proofs.Lists.{same_from_sum, sum_rises}
use Rattle.clear_core.specs.Clearing.{receipts, estate, spend, pay, least, Clears}
use Rattle.clear_core.proofs.Least.{least_clears, clears_only_at_least}
use Rattle.clear_core.proofs.Pay.{length-pay}
use Rattle.cascade.specs.Standings.{bank_numbers, due, kept, owed_by, paid_by}
use Rattle.cascade.proofs.CashAt.{cash_at, cash_stays, outside_stays, length-with_cash, all_cash_changes}
use Rattle.cascade.proofs.Healths.{sound_enough, enough_sound}
use Rattle.cascade.proofs.Limits.{clearing_over}
use Rattle.cascade.proofs.MoreCash.{pays_at_once, pays_where_clearing, all_kept_is}
use Rattle.cascade.proofs.PayingOut.{all_paid, paid_is, sum_by_numbers}
use Rattle.cascade.proofs.Sums.{sum_by_same}
use Rattle.rescue.specs.OneUnit.{all_kept, PassesNothingOn, CountsOnce}
use Rattle.rescue.specs.Rescue.{added}
use Rattle.rescue.proofs.MoreCash.{GoOn, cash_added, goes_on_with_sum}

module _ (net : Net) (i : ℕ) (network : IsNetwork net) (bank : i < length net.banks) where
  -- the network with the unit, its banks, and the least payments before
  abbrev more : Net
  more = added net i 1

  -- the banks of the network
  abbrev banks : List Bank
  banks = cash_at net.banks i (cash_of net i + 1)

  -- the least payments without the unit
  abbrev P : List ℕ
  P = least net

  -- these are on the way to the least with the unit
  goes_on : GoOn more P
  goes_on = goes_on_with_sum net i 1

  -- all banks together keep one unit more
  kept_more : all_kept more ≡ all_kept net + 1
  kept_more =
      let as_many = length-with_cash net i (cash_of net i + 1) in
      let numbers = ap (λ n. sum_by (kept more (least more)) (range_with_len 0 n)) as_many in
      let after = all_kept_is net network banks (least more) (least_clears more) as_many in
      let before = all_kept_is net network net.banks P (least_clears net) refl in
      omega (arith, all_cash_changes net i (cash_of net i + 1) bank)

  -- what the bank pays before
  pays : (j : ℕ) → paid_by net P j ≡ min (spend net j (receipts net P j)) (owed_by net j)
  pays j = paid_is net P network (least_clears net) j

  -- where no payment changes, it passes nothing on
  passes_nothing : least more ≡ P → PassesNothingOn net i
  passes_nothing same =
      let clears : Clears more P = subst (Clears more) same (least_clears more) in
      ⊎_elim
      (λ (l : estate net P i < due net i). inr (
      let after = pays_where_clearing net network banks P clears i in
      let outside = outside_stays net i (cash_of net i + 1) i in
      omega (arith, pays i, cash_added net i 1 bank)))
      (λ (g : due net i ≤ estate net P i). inl (enough_sound net P i (pays i) g))
      (cases_lt (estate net P i) (due net i))

  -- where it passes nothing on, it would pay no more at once with the unit
  pays_no_more : PassesNothingOn net i → paid_by net (pay more P) i ≡ paid_by net P i
  pays_no_more h =
      let before = pays i in
      let at_once = pays_at_once net network banks P i in
      let cash = cash_added net i 1 bank in
      let outside = outside_stays net i (cash_of net i + 1) i in
      elim h [
        | inl sound ↦ omega (arith, sound_enough net P i before sound)
        | inr taken ↦ omega arith
      ]

  -- and no other bank would
  others_pay_no_more : (j : ℕ) → (j ≡ i → ⊥) → paid_by net (pay more P) j ≡ paid_by net P j
  others_pay_no_more j ne =
      let cash = cash_stays net i (cash_of net i + 1) j ne in
      let outside = outside_stays net i (cash_of net i + 1) j in
      omega (arith, pays j, pays_at_once net network banks P j)

  -- so all payments together would be the same
  sum_stays : PassesNothingOn net i → sum (pay more P) ≡ sum P
  sum_stays h =
      let numbers = bank_numbers net in
      let each : (j : ℕ) → paid_by net (pay more P) j ≡ paid_by net P j =
      λ j. grind (arith, pays_no_more h, others_pay_no_more j) in
      let after = sum_by_numbers net (pay more P) (length-pay more P) in
      let before = sum_by_numbers net P goes_on.0 in
      let same = sum_by_same (paid_by net (pay more P)) (paid_by net P) numbers each in
      omega (arith, all_paid net (pay more P) network, all_paid net P network)

  -- and none changes
  payments_stay : PassesNothingOn net i → least more ≡ P
  payments_stay h =
      let same : P ≡ pay more P = same_from_sum P (pay more P) (goes_on.0 ∙ sym (length-pay more P))
      goes_on.1 (omega (arith, sum_stays h)) in
      sym (clears_only_at_least more P goes_on.2 (sym same))

  -- where it passes the unit on, they rise
  payments_rise : ¬ (PassesNothingOn net i) → sum P + 1 ≤ sum (least more)
  payments_rise h =
      let as_many = goes_on.0 ∙ sym (clearing_over more (least more) (least_clears more)) in
      omega (arith, sum_rises P (least more) as_many goes_on.2 (λ e. h (passes_nothing (sym e))))

  -- so the unit counts once
  pub counts_once : CountsOnce net i
  counts_once = record {
    kept = kept_more;
    stays = (passes_nothing, payments_stay);
    rises = payments_rise;
  }
