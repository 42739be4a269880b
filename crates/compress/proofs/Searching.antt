-- Going over the column of a bank.
use Rattle.std.proofs.Common.{◌≡◌, ℕ, ◌<◌, List, length, get_or, sym, ap, ◌∙◌}
use Rattle.clr_net.specs.declared.debt.DebtId.{DebtId}
use Rattle.clr_net.specs.Net.{Net, numbers, creditor_of, column}
use Rattle.clr_net.proofs.OfKind.{number_at}
use Rattle.clr_net.proofs.RowsAndColumns.{column_place}

-- a debt of a column, by its number as it is read
pub record StandsInColumn (net : Net) (i k x : ℕ) : Type 0 where
  pub place : k < length (column net i)
  pub at : get_or (column net i) k 0 ≡ x
  pub in_range : x < length net.debts
  pub owed : creditor_of net x ≡ i

-- a number that was read from a bank's column stands there in its place
pub stands_in_column : (net : Net) (i : ℕ) (ids : List DebtId) (k : ℕ) (z : DebtId)
    → numbers ids ≡ column net i → k < length ids
    → StandsInColumn net i k (get_or ids k z).0
stands_in_column net i ids k z e l =
    let read = number_at ids (column net i) k z e l in
    let here = column_place net i k read.0 in
    record {
      place = read.0;
      at = sym read.1;
      in_range = rw read.1 here.0;
      owed = ap (creditor_of net) read.1 ∙ here.1;
    }
