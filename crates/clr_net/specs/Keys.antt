-- The keys by which a list of debts of one bank is searched: the other bank and the class.
use Rattle.std.specs.Prelude.{ℕ, ◌+◌, ◌*◌, List, map, slice_get}
use Rattle.std.specs.Option.{option_map_or}
use Rattle.clr_net.specs.Net.{Net, row, column}
use Rattle.clr_net.specs.declared.debt.Debt.{Debt}

-- a bank and a class in one number: a class is below 256
abbrev pub key : ℕ → ℕ → ℕ
key bank class = bank * 256 + class

-- the key of a debt among those of its debtor
abbrev pub row_key : Debt → ℕ
row_key d = key d.creditor.0 d.class

-- the key of a debt among those that are owed to its creditor
abbrev pub column_key : Debt → ℕ
column_key d = key d.debtor.0 d.class

-- the keys of the row of the bank i, place by place
abbrev pub row_keys : Net → ℕ → List ℕ
row_keys net i = map (λ x. option_map_or row_key (slice_get net.debts x) 0) (row net i)

-- the keys of the column of the bank i, place by place
abbrev pub column_keys : Net → ℕ → List ℕ
column_keys net i = map (λ x. option_map_or column_key (slice_get net.debts x) 0) (column net i)
