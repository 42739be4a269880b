-- A network with other cash at each of its banks. Such cash is a function of a bank's number.
use Rattle.std.specs.Prelude.{◌≡◌, ℕ, zero, suc, ◌+◌, ◌^◌, ◌<◌, ◌≤◌, nat_lt, cond, min, List, []}
use Rattle.std.specs.Prelude.{◌∷◌, length, slice_index, slice_index_or}
use Rattle.clr_net.specs.declared.bank.Bank.{Bank}
use Rattle.clr_net.specs.Net.{Net, cash_of, of_cash}
use Rattle.clr_net.specs.declared.TheConstants.{MAX_CASH}

-- banks, of which the first has the number n, with other cash
abbrev pub with_cashes_from : (ℕ → ℕ) → ℕ → List Bank → List Bank
with_cashes_from cash n [] = []
with_cashes_from cash n (b ∷ banks) = of_cash (cash n) b ∷ with_cashes_from cash (suc n) banks

-- the network with other cash
abbrev pub with_cashes : Net → (ℕ → ℕ) → Net
with_cashes net cash = record net { banks = with_cashes_from cash 0 net.banks }

-- these amounts are the cash of each bank of a network
pub record IsCashOf (net : Net) (cash : List ℕ) : Type 0 where
  pub for_each_bank : length cash ≡ length net.banks
  pub each : (i : ℕ) → i < length net.banks → slice_index cash i ≡ cash_of net i

-- the cash of each bank, by shares of many networks from one number up to below another: no bank
-- has less by a share within another
abbrev pub AreFloors : (ℕ → ℕ → ℕ → ℕ) → Type 0
AreFloors floor = (low high a b i : ℕ) → low ≤ a → a < b → b ≤ high → floor low high i ≤ floor a b i

-- the network of the number n, of those whose least cash is so: that with the cash of its own share
abbrev pub network_at : Net → (ℕ → ℕ → ℕ → ℕ) → ℕ → Net
network_at net floor n = with_cashes net (floor n (n + 1))

-- the least of f low and what follows, up to below f high; f low where nothing follows
abbrev pub lowest : (ℕ → ℕ) → ℕ → ℕ → ℕ
lowest f low zero = f low
lowest f low (suc high) = cond (nat_lt low high) (min (lowest f low high) (f high)) (f low)

-- the cash of the bank i in the network k of a table, which has a row for each network
abbrev pub cash_in_row : List (List ℕ) → ℕ → ℕ → ℕ
cash_in_row rows i k = slice_index_or (slice_index_or rows k []) i 0

-- a table for the banks of a network: each row has the cash of each bank, within the limit
pub record IsTableOf (net : Net) (rows : List (List ℕ)) : Type 0 where
  pub few : length rows < 2 ^ 32
  pub for_each_bank : (k : ℕ) → k < length rows
      → length (slice_index_or rows k []) ≡ length net.banks
  pub in_limit : (i k : ℕ) → cash_in_row rows i k ≤ MAX_CASH
