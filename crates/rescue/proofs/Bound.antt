-- No sum below the bound saves a bank.
use Rattle.std.proofs.Common.{◌≡◌, ℕ, ◌+◌, ◌<◌, ◌≤◌, List, length, get_or, sum_by, sym, ap, ◌∙◌, subst, ⊎_elim, arith}
use Rattle.std.proofs.lemmas.Bool.{cases_eq, cases_lt}
use Rattle.std.proofs.lemmas.List.{ext_get_or}
use Rattle.std.proofs.lemmas.List.Sums.{sum-map}
use Rattle.clr_net.specs.Limits.{IsNetwork}
use Rattle.clr_net.specs.Net.{Net, cash_of, claim_of, debtor_of, place_in_row, row}
use Rattle.clear_core.specs.Clearing.{Clears, least, part, pay, receipts}
use Rattle.clear_core.proofs.Least.{least_clears, least_rounds}
use Rattle.clear_core.proofs.Pay.{length-pay, pay_at, pay_within, receipts_mono}
use Rattle.clear_core.proofs.Richer.{least_le_richer}
use Rattle.clear_core.proofs.Rows.{debt_of_bank}
use Rattle.cascade.specs.Standings.{paid_by}
use Rattle.cascade.proofs.CashAt.{cash_at, cash_stays, outside_stays}
use Rattle.cascade.proofs.GoingOn.{same_part}
use Rattle.cascade.proofs.Limits.{clearing_over, clearing_within}
use Rattle.cascade.proofs.Sums.{same_terms}
use Rattle.rescue.specs.Bound.{bound, missing, received_with}
use Rattle.rescue.specs.Rescue.{Saves, added}
use Rattle.rescue.proofs.LeastSum.{pays_with, saves_enough}
use Rattle.rescue.proofs.MoreCash.{cash_added, more_by_more, richer_by_more}

-- with a greater sum the bank receives no less
pub receives_more : (net : Net) (i a b : ℕ) → a ≤ b → received_with net i a ≤ received_with net i b
receives_more net i a b l =
    receipts_mono net (least (added net i a)) (least (added net i b)) i
    (least_le_richer (added net i a) (added net i b) (richer_by_more net i a b l))

-- so no sum below the bound saves it
pub bound_is_below : (net : Net) (i a : ℕ) → IsNetwork net → i < length net.banks → Saves net i a
    → bound net i ≤ a
bound_is_below net i a network bank saves = ⊎_elim
    (λ (l : a < missing net i).
    omega (
      arith,
      saves_enough net i network a saves,
      cash_added net i a bank,
      receives_more net i a (missing net i) (omega arith),
    ))
    (λ (g : missing net i ≤ a). omega arith)
    (cases_lt a (missing net i))

-- with all that is missing the bank pays each of its debts in full
module _ (net : Net) (i a : ℕ) (network : IsNetwork net) (bank : i < length net.banks)
    (enough : missing net i ≤ a) where
  -- the payments with all that is missing
  full : List ℕ
  full = least (added net i (missing net i))

  -- on each debt of the bank its claim
  in_full : (x : ℕ) → x < length net.debts → debtor_of net x ≡ i → get_or full x 0 ≡ claim_of net x
  unfolding full
  in_full x l owed =
      let most = added net i (missing net i) in
      let P = least most in
      let clears = least_clears most in
      let pays = pays_with net i network (missing net i) in
      let cash = cash_added net i (missing net i) bank in
      let outside = outside_stays net i (cash_of net i + missing net i) i in
      let all : sum_by (claim_of net) (row net i) ≤ paid_by net P i =
      omega (arith, pays, cash, outside, sum-map (claim_of net) (row net i)) in
      let stands = debt_of_bank net i x l owed in
      subst (λ y. get_or P y 0 ≡ claim_of net y) stands.at
      (same_terms (λ y. get_or P y 0) (claim_of net) (row net i) (clearing_within most P clears) all
      (place_in_row net x) stands.within)

  -- what another bank pays does not see the sum
  paid_by_others : (x r : ℕ) → (debtor_of net x ≡ i → ⊥)
      → part (added net i a) x r ≡ part (added net i (missing net i)) x r
  paid_by_others x r ne =
      let j = debtor_of net x in
      let cash : cash_of (added net i (missing net i)) j ≡ cash_of (added net i a) j =
      cash_stays net i (cash_of net i + missing net i) j ne
      ∙ sym (cash_stays net i (cash_of net i + a) j ne) in
      sym (same_part net (cash_at net.banks i (cash_of net i + missing net i))
      (cash_at net.banks i (cash_of net i + a)) (more_by_more net i (missing net i) a enough) x r cash)

  -- so with more cash than that all banks pay the same
  same_paid : (x : ℕ) → x < length net.debts
      → get_or (pay (added net i a) full) x 0 ≡ get_or full x 0
  unfolding full
  same_paid x l =
      let most = added net i (missing net i) in
      let P = least most in
      let up = (richer_by_more net i (missing net i) a enough).pays P x in
      let here = ap (λ (Q : List ℕ). get_or Q x 0) (least_clears most) in
      ⊎_elim
      (λ (e : debtor_of net x ≡ i).
      omega (arith, up, here, in_full x l e, pay_within (added net i a) P x))
      (λ (ne : debtor_of net x ≡ i → ⊥).
      pay_at (added net i a) P x l
      ∙ paid_by_others x (receipts net P (debtor_of net x)) ne
      ∙ sym (pay_at most P x l) ∙ here)
      (cases_eq (debtor_of net x) i)

  -- these payments clear then too, and so the least are not above them
  pub no_more_in_full : received_with net i a ≤ received_with net i (missing net i)
  unfolding full
  no_more_in_full =
      let more = added net i a in
      let over = clearing_over (added net i (missing net i)) full (least_clears (added net i (missing net i))) in
      let clears : Clears more full =
      ext_get_or 0 (pay more full) full (length-pay more full ∙ sym over)
      (λ x l. same_paid x (omega (arith, length-pay more full))) in
      receipts_mono net (least more) full i ((least_rounds more).least full clears)

-- whatever the sum, the bank receives at most what it does with all that is missing
pub receives_at_most : (net : Net) (i a : ℕ) → IsNetwork net → i < length net.banks
    → received_with net i a ≤ received_with net i (missing net i)
receives_at_most net i a network bank = ⊎_elim
    (λ (l : a < missing net i). receives_more net i a (missing net i) (omega arith))
    (λ (g : missing net i ≤ a). no_more_in_full net i a network bank g)
    (cases_lt a (missing net i))
