-- What a round writes, row by row.
use Rattle.std.proofs.Common.{◌≡◌, ℕ, ◌<◌, ◌≤◌, List, length, get_or, sym, ◌∙◌, arith}
use Rattle.std.proofs.lemmas.List.{ext_get_or}
use Rattle.clr_net.specs.declared.debt.BankId.{BankId}
use Rattle.clr_net.specs.Net.{Net, debtor_of}
use Rattle.upper.specs.Falls.{bank_at, AreHit}
use Rattle.upper.proofs.Hits.{listed_place}

-- the first j banks of a list pay what is wanted on all their debts, and so does every other bank
-- that did at the start
pub record ArePaidFor (net : Net) (banks : List BankId) (wanted start now : List ℕ)
    (j : ℕ) : Type 0 where
  pub done : (k : ℕ) → k < j → (x : ℕ) → x < length net.debts → debtor_of net x ≡ bank_at banks k
      → get_or now x 0 ≡ get_or wanted x 0
  pub rest : (x : ℕ) → x < length net.debts → get_or start x 0 ≡ get_or wanted x 0
      → get_or now x 0 ≡ get_or wanted x 0

-- all banks whose receipts fell have paid, and the others pay what is wanted already: so all do
pub all_paid_for : (net : Net) (falls : List ℕ) (banks : List BankId) (wanted start now : List ℕ)
    (j : ℕ) → AreHit falls banks
    → length banks ≤ j → length now ≡ length net.debts → length wanted ≡ length net.debts
    → ((x : ℕ) → x < length net.debts → get_or falls (debtor_of net x) 0 ≡ 0
    → get_or start x 0 ≡ get_or wanted x 0)
    → ArePaidFor net banks wanted start now j → now ≡ wanted
all_paid_for net falls banks wanted start now j hit g as_many over current paid =
    ext_get_or 0 now wanted (as_many ∙ sym over) (λ x l.
    let in_range : x < length net.debts = omega arith in
    let i = debtor_of net x in
    grind (arith, hit.listed i, listed_place banks i, paid.rest x, paid.done, current x))
