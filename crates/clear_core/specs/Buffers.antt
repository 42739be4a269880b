-- What the buffers of a scratch, and the amounts of a state, can hold.
use Rattle.std.specs.Prelude.{◌≡◌, ℕ, ◌≤◌, List, length, slice_index}
use Rattle.clr_net.specs.Net.{Net, row}
use Rattle.clr_net.specs.declared.TheConstants.{MAX_CLAIM}

-- buffers of this room hold the row of each bank
abbrev pub HasRoom : Net → ℕ → Type 0
HasRoom net room = (i : ℕ) → length (row net i) ≤ room

-- the awards of the last division, and how many debts the buffers of one can hold
pub record RowDivision : Type 0 where
  pub awards : List ℕ
  pub room : ℕ

-- no amount is above the most that a debt may claim
abbrev pub AreInLimit : List ℕ → Type 0
AreInLimit amounts = (k : ℕ) → slice_index amounts k ≤ MAX_CLAIM

-- two lists over the same debts, all of whose amounts are in the limit
pub record IsSound (paid seen : List ℕ) : Type 0 where
  pub as_many : length seen ≡ length paid
  pub paid_in_limit : AreInLimit paid
  pub seen_in_limit : AreInLimit seen
