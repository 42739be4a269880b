-- The accounts in which a network keeps its banks, without what they have of spare memory, and how
-- a debt is entered.
use Rattle.std.specs.Prelude.{◌≡◌, ℕ, ◌+◌, ◌<◌, List, [], ◌∷◌, ◌++◌, slice_get, Some, vec_len, vec_capacity}
use Rattle.clr_net.specs.Keys.{row_key, column_key}
use Rattle.clr_net.specs.Net.{numbers, changed_at}
use Rattle.clr_net.specs.declared.bank.Bank.{Bank}
use Rattle.clr_net.specs.declared.debt.Debt.{Debt}
use Rattle.clr_net.specs.declared.debt_list.DebtList.{DebtList}
use Rattle.clr_net.specs.declared.account.Account.{Account}

-- an account without its spare memory: the bank, the numbers and the keys of the debts that it owes
-- and of those that are owed to it, and the units it owes
pub record Shown : Type 0 where
  pub bank : Bank
  pub row : List ℕ
  pub row_keys : List ℕ
  pub column : List ℕ
  pub column_keys : List ℕ
  pub owed : ℕ

abbrev pub shown : Account → Shown
shown c = record {
  bank = c.bank;
  row = numbers c.row.ids.items;
  row_keys = c.row.keys.items;
  column = numbers c.column.ids.items;
  column_keys = c.column.keys.items;
  owed = c.owed;
}

-- the account that owes one debt more
abbrev pub owing : ℕ → Debt → Shown → Shown
owing id d s = record s {
  row = s.row ++ id ∷ [];
  row_keys = s.row_keys ++ row_key d ∷ [];
  owed = s.owed + d.claim;
}

-- the account that is owed one debt more
abbrev pub owed_one_more : ℕ → Debt → Shown → Shown
owed_one_more id d s = record s {
  column = s.column ++ id ∷ [];
  column_keys = s.column_keys ++ column_key d ∷ [];
}

-- the accounts with one debt more
abbrev pub entered : List Shown → ℕ → Debt → List Shown
entered accounts id d =
    changed_at (owed_one_more id d) (changed_at (owing id d) accounts d.debtor.0) d.creditor.0

-- one more debt can be noted in the list with no memory
pub record HasRoom (l : DebtList) : Type 0 where
  pub ids : vec_len l.ids < vec_capacity l.ids
  pub keys : vec_len l.keys < vec_capacity l.keys

-- a debt between these two banks can be entered with no memory
pub record HaveRoom (accounts : List Account) (debtor creditor : ℕ) : Type 0 where
  pub row : (c : Account) → slice_get accounts debtor ≡ Some c → HasRoom c.row
  pub column : (c : Account) → slice_get accounts creditor ≡ Some c → HasRoom c.column
