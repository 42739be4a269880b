-- A clearing goes on where banks have more cash.
use Rattle.std.proofs.Common.{◌≡◌, ℕ, ◌<◌, List, get_or, length, ap, sym, ◌∙◌, subst, arith}
use Rattle.clr_net.specs.declared.bank.Bank.{Bank}
use Rattle.clr_net.specs.declared.debt.Debt.{Debt}
use Rattle.clr_net.specs.declared.rule.RuleKind.{RuleKind}
use Rattle.clr_net.specs.Division.{share}
use Rattle.clr_net.specs.Net.{Net, cash_of, claims_of, classes_of, debtor_of, place_in_row}
use Rattle.clear_core.specs.Clearing.{IsOnWayBy, least, part, pay, pay_by, receipts, rounds, spend, spendable}
use Rattle.clear_core.proofs.Least.{least_clears}
use Rattle.clear_core.proofs.Pay.{pay_at}
use Rattle.cascade.specs.MoreCash.{GoesOn, HasMoreCash}
use Rattle.cascade.proofs.Limits.{clearing_over}
use Rattle.cascade.proofs.MoreCash.{least_rises, richer_by_cash}
use Rattle.cascade.proofs.PayingOut.{with_banks}

-- of two lists of banks, the second with no less cash
module _ (net : Net) (less more : List Bank)
    (h : HasMoreCash (with_banks net less) (with_banks net more)) where
  -- the least payments of the first are on the way to those of the second
  way_on : IsOnWayBy (with_banks net more) (spend (with_banks net more))
      (least (with_banks net less))
  unfolding pay rounds
  way_on =
      let poor = with_banks net less in
      let P = least poor in
      record {
        as_many = clearing_over poor P (least_clears poor);
        rises = λ x. omega (
          arith,
          (richer_by_cash net less more h).pays P x,
          ap (λ (Q : List ℕ). get_or Q x 0) (least_clears poor),
        );
        below = least_rises net less more h;
      }

  -- a debtor of the same cash pays the same on a debt of what it receives
  pub same_part : (x r : ℕ)
      → cash_of (with_banks net less) (debtor_of net x) ≡ cash_of (with_banks net more) (debtor_of net x)
      → part (with_banks net less) x r ≡ part (with_banks net more) x r
  same_part x r cash =
      let i = debtor_of net x in
      let k = place_in_row net x in
      let given = λ (rule : RuleKind) (cash outside : ℕ).
      get_or (share rule (claims_of net i) (classes_of net i) (spendable cash outside r)) k 0 in
      λ at. given (sym (h.rules i) at) (cash at) (sym (h.outside i) at)

  -- so a bank of the same cash pays no more before it receives more
  same_paid : (i : ℕ) → cash_of (with_banks net less) i ≡ cash_of (with_banks net more) i
      → (x : ℕ) → x < length net.debts → debtor_of net x ≡ i
      → get_or (least (with_banks net less)) x 0
      ≡ get_or (pay_by (with_banks net more) (spend (with_banks net more)) (least (with_banks net less))) x 0
  unfolding pay
  same_paid i cash x l owed =
      let poor = with_banks net less in
      let rich = with_banks net more in
      let P = least poor in
      let same : cash_of poor (debtor_of net x) ≡ cash_of rich (debtor_of net x) = rw owed cash in
      ap (λ (Q : List ℕ). get_or Q x 0) (sym (least_clears poor))
      ∙ pay_at poor P x l
      ∙ same_part x (receipts net P (debtor_of net x)) same
      ∙ sym (pay_at rich P x l)

  -- so a clearing goes on
  goes_on_with_banks : GoesOn (with_banks net less) (with_banks net more)
  goes_on_with_banks = record { way = way_on; quiet = same_paid }

-- a network with the debts of another is that one with other banks
pub goes_on : (net more : Net) → HasMoreCash net more → GoesOn net more
goes_on net more h =
    let owing = λ (debts : List Debt). with_banks (record net { debts = debts }) more.banks in
    let same : with_banks net more.banks ≡ more = ap owing (sym h.debts) in
    subst (GoesOn net) same
    (goes_on_with_banks net net.banks more.banks (subst (HasMoreCash net) (sym same) h))
