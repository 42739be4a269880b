-- How the type `Network` keeps its banks and debts: the accounts of the banks, the index of names,
-- and the totals.
use Rattle.std.specs.Prelude.{◌≡◌, ◌≢◌, ℕ, ◌<◌, List, length, map, sum, slice_get, Some}
use Rattle.clr_net.specs.Keys.{row_keys, column_keys}
use Rattle.clr_net.specs.Limits.{IsNetwork}
use Rattle.clr_net.specs.Net.{Net, name_of, numbers, row, column}
use Rattle.clr_net.specs.Net.{claims_of, units_owed, all_cash, all_outside}
use Rattle.clr_net.specs.declared.debt.Debt.{Debt}
use Rattle.clr_net.specs.declared.account.Account.{Account}
use Rattle.clr_net.specs.declared.network.Network.TheInside.{Inside}

-- the network of these accounts and debts
abbrev pub net_of : List Account → List Debt → Net
net_of accounts debts = record { banks = map (λ c. c.bank) accounts; debts = debts }

-- the network that contracts see
abbrev pub net_within : Inside → Net
net_within a = net_of a.accounts.items a.debts.items

-- no two banks of one name
abbrev pub HaveOwnNames : Net → Type 0
HaveOwnNames net = (i j : ℕ) → i < length net.banks → j < i → name_of net j ≢ name_of net i

-- what the account of the bank i holds beside the bank
pub record IsAccountOf (net : Net) (i : ℕ) (c : Account) : Type 0 where
  pub row : numbers c.row.ids.items ≡ row net i
  pub row_keys : c.row.keys.items ≡ row_keys net i
  pub column : numbers c.column.ids.items ≡ column net i
  pub column_keys : c.column.keys.items ≡ column_keys net i
  pub owed : c.owed ≡ sum (claims_of net i)

-- accounts, debts, names and totals that make one network
pub record AreKept (all : List Account) (owing : List Debt) (index : List (List ℕ))
    (total money senior : ℕ) : Type 0 where
  pub network : IsNetwork (net_of all owing)
  pub names : index ≡ map (λ b. b.name) (net_of all owing).banks
  pub accounts : (i : ℕ) (c : Account) → slice_get all i ≡ Some c
      → IsAccountOf (net_of all owing) i c
  pub owed : total ≡ units_owed (net_of all owing)
  pub cash : money ≡ all_cash (net_of all owing)
  pub outside : senior ≡ all_outside (net_of all owing)

-- what always holds of the fields
abbrev pub IsKept : Inside → Type 0
IsKept a =
    AreKept a.accounts.items a.debts.items (map (λ v. v.items) a.names.keys)
    a.owed a.cash a.outside
