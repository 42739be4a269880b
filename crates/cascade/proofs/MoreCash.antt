-- What more cash does: of networks of the same debts, whose banks differ in cash alone.
use Rattle.std.proofs.Common.{◌≡◌, ℕ, ◌≤◌, min, List, length, get_or, sum, sum_by, sym, ap, ◌∙◌, subst, refl, arith}
use Rattle.std.proofs.lemmas.List.Sums.{sum-map}
use Rattle.clr_net.specs.Amounts.{IsAtMost}
use Rattle.clr_net.specs.declared.bank.Bank.{Bank}
use Rattle.clr_net.specs.declared.debt.Debt.{Debt}
use Rattle.clr_net.specs.declared.rule.RuleKind.{RuleKind}
use Rattle.clr_net.specs.Division.{share}
use Rattle.clr_net.specs.Limits.{IsNetwork}
use Rattle.clr_net.specs.Net.{Net, row, rule_of, claims_of, classes_of, debtor_of, place_in_row, all_cash}
use Rattle.clr_net.proofs.RowsAndColumns.{length-claims_of, length-classes_of, classes_of_are}
use Rattle.clr_net.proofs.Share.{share_mono, sum_share}
use Rattle.clear_core.specs.Clearing.{receipts, estate, spend, part, pay_by, pay, least, Clears}
use Rattle.clear_core.specs.Richer.{IsRicher}
use Rattle.clear_core.proofs.BankPays.{pay_by_row}
use Rattle.clear_core.proofs.Least.{least_clears}
use Rattle.clear_core.proofs.Pay.{pay_at, pay_past, receipts_mono}
use Rattle.clear_core.proofs.Richer.{least_le_richer}
use Rattle.cascade.specs.Standings.{bank_numbers, owed_by, paid_by, kept}
use Rattle.cascade.specs.MoreCash.{HasMoreCash, NobodyLoses}
use Rattle.cascade.proofs.Healths.{sound_enough, enough_sound}
use Rattle.cascade.proofs.PayingOut.{with_banks, all_kept}

-- what a bank pays at once on its debts, whatever cash the banks have, where it divides by f: all
-- that it divides, up to what it owes
pub pays_by : (net : Net) → IsNetwork net → (banks : List Bank) (f : ℕ → ℕ → ℕ) (P : List ℕ)
    (i : ℕ) → paid_by net (pay_by (with_banks net banks) f P) i
    ≡ min (f i (receipts net P i)) (owed_by net i)
pays_by net network banks f P i =
    let other = with_banks net banks in
    sym (sum-map (λ x. get_or (pay_by other f P) x 0) (row net i))
    ∙ ap sum (pay_by_row other f P i)
    ∙ sum_share (rule_of other i) (claims_of net i) (classes_of net i) (f i (receipts net P i))
    (length-claims_of net i ∙ sym (length-classes_of net i)) (classes_of_are net i network)

-- and so what it pays of its estate
pub pays_at_once : (net : Net) → IsNetwork net → (banks : List Bank) (P : List ℕ) (i : ℕ)
    → paid_by net (pay (with_banks net banks) P) i
    ≡ min (spend (with_banks net banks) i (receipts net P i)) (owed_by net i)
unfolding pay
pays_at_once net network banks = pays_by net network banks (spend (with_banks net banks))

module _ (net : Net) (network : IsNetwork net) (banks : List Bank) (P : List ℕ)
    (clears : Clears (with_banks net banks) P) where
  -- and so where payments clear
  pub pays_where_clearing : (i : ℕ) → paid_by net P i
      ≡ min (spend (with_banks net banks) i (receipts net P i)) (owed_by net i)
  pays_where_clearing i =
      ap (λ Q. paid_by net Q i) (sym clears) ∙ pays_at_once net network banks P i

  -- it keeps the rest of its estate, so all that banks keep is all their cash
  pub all_kept_is : length banks ≡ length net.banks
      → sum_by (kept (with_banks net banks) P) (bank_numbers net) ≡ all_cash (with_banks net banks)
  all_kept_is l = all_kept net network banks P (kept (with_banks net banks) P) l
      (λ i. omega (arith, pays_where_clearing i))

-- of two lists of banks, the second with no less cash
module _ (net : Net) (less more : List Bank)
    (h : HasMoreCash (with_banks net less) (with_banks net more)) where
  -- no debtor's rule gives less on a debt
  part_le : (x r : ℕ) → part (with_banks net less) x r ≤ part (with_banks net more) x r
  part_le x r =
      let i = debtor_of net x in
      let k = place_in_row net x in
      let poor = with_banks net less in
      let rich = with_banks net more in
      let rule = rule_of poor i in
      let given = λ (rule : RuleKind) (units : ℕ).
      get_or (share rule (claims_of net i) (classes_of net i) units) k 0 in
      let rises : given rule (spend poor i r) ≤ given rule (spend rich i r) =
      share_mono rule (claims_of net i) (classes_of net i) (spend poor i r) (spend rich i r)
      (omega (arith, h.cash i, h.outside i)) k in
      omega (arith, rises, ap (λ (rule : RuleKind). given rule (spend rich i r)) (h.rules i))

  -- so no bank pays less, whatever was paid
  pub richer_by_cash : IsRicher (with_banks net less) (with_banks net more)
  richer_by_cash = record {
    debts = refl;
    pays = λ P x.
        let by_less = pay_past (with_banks net less) P x in
        let by_more = pay_at (with_banks net more) P x in
        grind (arith, pay_at (with_banks net less) P x, part_le x (receipts net P (debtor_of net x)));
  }

  -- and no payment of the least is less
  pub least_rises : IsAtMost (least (with_banks net less)) (least (with_banks net more))
  least_rises = least_le_richer (with_banks net less) (with_banks net more) richer_by_cash

  -- no bank has less under the least payments
  estate_rises : (i : ℕ) → estate (with_banks net less) (least (with_banks net less)) i
      ≤ estate (with_banks net more) (least (with_banks net more)) i
  estate_rises i =
      let received = receipts_mono net (least (with_banks net less)) (least (with_banks net more)) i
      least_rises in
      omega (arith, h.cash i)

  -- so nobody is worse off
  pub nobody_loses : IsNetwork net → NobodyLoses (with_banks net less) (with_banks net more)
  nobody_loses network =
      let poor = with_banks net less in
      let rich = with_banks net more in
      let pays = pays_where_clearing net network less (least poor) (least_clears poor) in
      let pays_more = pays_where_clearing net network more (least rich) (least_clears rich) in
      record {
        payments = least_rises;
        estates = estate_rises;
        keeps = λ i. omega (arith, pays i, pays_more i, estate_rises i, h.outside i);
        sound = λ i sound.
            let enough = sound_enough poor (least poor) i (pays i) sound in
            enough_sound rich (least rich) i (pays_more i)
            (omega (arith, estate_rises i, h.outside i));
      }

-- a network with the debts of another is that one with other banks
pub nobody_loses_by_cash : (net more : Net) → IsNetwork net → HasMoreCash net more
    → NobodyLoses net more
nobody_loses_by_cash net more network h =
    let owing = λ (debts : List Debt). with_banks (record net { debts = debts }) more.banks in
    let same : with_banks net more.banks ≡ more = ap owing (sym h.debts) in
    subst (NobodyLoses net) same
    (nobody_loses net net.banks more.banks (subst (HasMoreCash net) (sym same) h) network)
