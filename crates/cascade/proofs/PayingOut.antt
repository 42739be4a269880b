-- Under payments that clear, a bank pays out what it can, and no unit is made or lost.
use Rattle.std.proofs.Common.{◌≡◌, ℕ, ◌+◌, ◌-◌, ◌<◌, min, List, length, get_or, map, sum, sum_by, sym, ap, ◌∙◌, slice_get, refl, [], ◌∷◌, zero, suc, arith}
use Rattle.std.specs.List.{range_with_len}
use Rattle.std.specs.Option.{option_map_or}
use Rattle.std.proofs.lemmas.List.{length-map}
use Rattle.std.proofs.lemmas.List.FromFn.{get_or-range_with_len, length-range_with_len, fill_by_all}
use Rattle.std.proofs.lemmas.List.Sums.{sum-map}
use Rattle.clr_net.specs.declared.bank.Bank.{Bank}
use Rattle.clr_net.specs.Limits.{IsNetwork}
use Rattle.clr_net.specs.Net.{Net, debt_numbers, debtor_of, creditor_of, cash_of, all_cash}
use Rattle.clear_core.specs.Clearing.{receipts, estate, spend, Clears}
use Rattle.clear_core.proofs.BankPays.{clearing_row}
use Rattle.cascade.specs.Standings.{bank_numbers, paid_by, owed_by, outside_paid, equity, PaysOut, AddsUp}
use Rattle.cascade.proofs.Sums.{sum_by-add, sum_by_same, sum_by_groups}

-- the network with other banks
abbrev pub with_banks : Net → List Bank → Net
with_banks net banks = record net { banks = banks }

-- a list over all banks, read at a bank's number
pub banks_at : {X : Type 0} (f : Bank → X) (banks : List Bank) (i : ℕ) (d : X)
    → get_or (map f banks) i d ≡ option_map_or f (slice_get banks i) d
banks_at f [] i d = refl
banks_at f (b ∷ banks) zero d = refl
banks_at f (b ∷ banks) (suc i) d = banks_at f banks i d

-- all cash is that of all banks
pub all_cash_is : (net : Net) → sum_by (cash_of net) (bank_numbers net) ≡ all_cash net
all_cash_is net = sym (
    sym (sum-map (λ b. b.cash) net.banks)
    ∙ ap sum (fill_by_all (cash_of net) (map (λ b. b.cash) net.banks) (length net.banks) 0
    (length-map net.banks (λ b. b.cash)) (λ i l. banks_at (λ b. b.cash) net.banks i 0))
    ∙ sum-map (cash_of net) (bank_numbers net)
    )

-- what stands in the list of all debts is a debt
debt_number : (net : Net) (k : ℕ) → k < length (debt_numbers net) → get_or (debt_numbers net) k 0 < length net.debts
debt_number net k l =
    let n : length (debt_numbers net) ≡ length net.debts = length-range_with_len 0 (length net.debts) in
    omega (arith, get_or-range_with_len 0 (length net.debts) k 0 (omega arith))

-- payments on all debts, summed by the numbers of the debts
pub sum_by_numbers : (net : Net) (Q : List ℕ) → length Q ≡ length net.debts
    → sum Q ≡ sum_by (λ x. get_or Q x 0) (debt_numbers net)
sum_by_numbers net Q l =
    ap sum (fill_by_all (λ x. get_or Q x 0) Q (length net.debts) 0 l (λ x m. refl))
    ∙ sum-map (λ x. get_or Q x 0) (debt_numbers net)

-- what all banks receive are all payments, since each debt has one creditor
pub all_received : (net : Net) (P : List ℕ) → IsNetwork net
    → sum_by (receipts net P) (bank_numbers net) ≡ sum_by (λ x. get_or P x 0) (debt_numbers net)
all_received net P network = sum_by_groups (creditor_of net) (λ x. get_or P x 0) (length net.banks) (debt_numbers net)
    (λ k l. (network.each_debt (get_or (debt_numbers net) k 0) (debt_number net k l)).creditor_known)

-- and so is what they pay on their debts, since each has one debtor
pub all_paid : (net : Net) (P : List ℕ) → IsNetwork net
    → sum_by (paid_by net P) (bank_numbers net) ≡ sum_by (λ x. get_or P x 0) (debt_numbers net)
all_paid net P network = sum_by_groups (debtor_of net) (λ x. get_or P x 0) (length net.banks) (debt_numbers net)
    (λ k l. (network.each_debt (get_or (debt_numbers net) k 0) (debt_number net k l)).debtor_known)

-- so what banks, whatever cash they have, keep of their estates adds up to all cash, if none pays
-- more than it has
pub all_kept : (net : Net) → IsNetwork net → (banks : List Bank) (P : List ℕ) (kept : ℕ → ℕ)
    → length banks ≡ length net.banks
    → ((i : ℕ) → kept i + paid_by net P i ≡ estate (with_banks net banks) P i)
    → sum_by kept (bank_numbers net) ≡ all_cash (with_banks net banks)
all_kept net network banks P kept l h =
    let other = with_banks net banks in
    let numbers = bank_numbers net in
    let parts = sum_by-add kept (paid_by net P) numbers in
    let all = sum_by_same (λ i. kept i + paid_by net P i) (estate other P) numbers h in
    let estates = sum_by-add (cash_of other) (receipts net P) numbers in
    let cash = ap (λ n. sum_by (cash_of other) (range_with_len 0 n)) l in
    omega (arith, all_cash_is other, all_received net P network, all_paid net P network)

module _ (net : Net) (P : List ℕ) (network : IsNetwork net) (clears : Clears net P) where
  -- what a bank pays on its debts
  pub paid_is : (i : ℕ) → paid_by net P i ≡ min (spend net i (receipts net P i)) (owed_by net i)
  paid_is i = clearing_row net P network clears i

  -- outside first, then on its debts
  pub pays_out : (i : ℕ) → PaysOut net P i
  pays_out i = record {
    debts = omega (arith, paid_is i);
    within = omega (arith, paid_is i);
    equity = λ l. (omega (arith, paid_is i), omega (arith, paid_is i));
  }

  -- and nothing is made or lost
  pub adds_up : AddsUp net P
  adds_up = record {
    estates = all_kept net network net.banks P (λ i. estate net P i - paid_by net P i) refl
        (λ i. omega (arith, paid_is i));
    equities = all_kept net network net.banks P (λ i. equity net P i + outside_paid net P i) refl
        (λ i. omega (arith, paid_is i));
  }
