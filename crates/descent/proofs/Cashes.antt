-- Networks with other cash: what their banks have, and which network is one.
use Rattle.std.proofs.Common.{◌≡◌, ℕ, zero, suc, ◌+◌, ◌<◌, ◌≤◌, List, [], ◌∷◌, length, map, refl, sym, ap, ◌∙◌, arith}
use Rattle.clr_net.specs.declared.bank.Bank.{Bank}
use Rattle.clr_net.specs.Net.{Net, cash_of, of_cash}
use Rattle.cascade.specs.MoreCash.{HasMoreCash, IsOfOtherCash}
use Rattle.cascade.proofs.OtherCash.{alike_with_more, cash_in, same_by_cash}
use Rattle.descent.specs.Cashes.{with_cashes, with_cashes_from}

-- banks with other cash differ in cash alone
alike_from : (cash : ℕ → ℕ) (n : ℕ) (banks : List Bank)
    → map (of_cash 0) (with_cashes_from cash n banks) ≡ map (of_cash 0) banks
alike_from cash n [] = refl
alike_from cash n (b ∷ banks) =
    let rest = alike_from cash (suc n) banks in λ at. of_cash 0 b ∷ rest at

-- so the network is of other cash
pub alike_with_cashes : (net : Net) (cash : ℕ → ℕ) → IsOfOtherCash net (with_cashes net cash)
alike_with_cashes net cash = (alike_from cash 0 net.banks, refl)

-- the cash of a bank, of a list that begins with the bank n
cash_from : (cash : ℕ → ℕ) (n i k : ℕ) (banks : List Bank) → n + i ≡ k → i < length banks
    → cash_in (with_cashes_from cash n banks) i ≡ cash k
cash_from cash n i k [] e l = absurd (omega arith)
cash_from cash n zero k (b ∷ banks) e l = let same : n ≡ k = omega arith in ap cash same
cash_from cash n (suc i) k (b ∷ banks) e l =
    cash_from cash (suc n) i k banks (omega arith) (omega arith)

-- and of the bank i of a network
pub cash_with_cashes : (net : Net) (cash : ℕ → ℕ) (i : ℕ) → i < length net.banks
    → cash_of (with_cashes net cash) i ≡ cash i
cash_with_cashes net cash i l = cash_from cash 0 i i net.banks (omega arith) l

-- where each has more, each has more in the list
more_from : (less more : ℕ → ℕ) → ((i : ℕ) → less i ≤ more i) → (n i : ℕ) (banks : List Bank)
    → cash_in (with_cashes_from less n banks) i ≤ cash_in (with_cashes_from more n banks) i
more_from less more rises n i [] = omega arith
more_from less more rises n zero (b ∷ banks) = rises n
more_from less more rises n (suc i) (b ∷ banks) = more_from less more rises (suc n) i banks

-- so the network has more cash
pub more_with_cashes : (net : Net) (less more : ℕ → ℕ) → ((i : ℕ) → less i ≤ more i)
    → HasMoreCash (with_cashes net less) (with_cashes net more)
more_with_cashes net less more rises =
    alike_with_more net (with_cashes net less) (with_cashes net more) (alike_with_cashes net less)
    (alike_with_cashes net more) (λ i. more_from less more rises 0 i net.banks)

-- a network of other cash is that with the cash of its banks
pub is_with_cashes : (net other : Net) (cash : ℕ → ℕ) → IsOfOtherCash net other
    → ((i : ℕ) → i < length net.banks → cash_of other i ≡ cash i)
    → other ≡ with_cashes net cash
is_with_cashes net other cash alike has =
    same_by_cash net other (with_cashes net cash) alike (alike_with_cashes net cash)
    (λ i l. has i l ∙ sym (cash_with_cashes net cash i l))
