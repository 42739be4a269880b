-- What is true of all that a seat shows, whatever the other seats do.
use Rattle.std.specs.Prelude.{◌≡◌, ℕ, ◌<◌, ◌≤◌, true, length, slice_index}
use Rattle.clr_net.specs.Amounts.{IsAtMost}
use Rattle.clr_net.specs.Limits.{IsNetwork}
use Rattle.clr_net.specs.Net.{debtor_of, units_owed}
use Rattle.clear_core.specs.Clearing.{receipts, part, least}
use Rattle.pay_words.specs.declared.view.Shown.{Shown}
use Rattle.pay_words.specs.Holding.{holds}

-- what a bank pays on each of its debts is within what its rule gives from its cash and from what
-- the seat last saw, less what it owes outside
abbrev pub PaysWithin : Shown → Type 0
PaysWithin s = (x : ℕ) → x < length s.net.debts → holds s (debtor_of s.net x) ≡ true
    → slice_index s.paid x ≤ part s.net x (receipts s.net s.sights (debtor_of s.net x))

-- each list has a place for each bank, or for each debt
pub record IsOver (s : Shown) : Type 0 where
  pub banks : length s.banks ≡ length s.net.banks
  pub sights : length s.sights ≡ length s.net.debts
  pub sight_stamps : length s.sight_stamps ≡ length s.net.debts
  pub looks : length s.looks ≡ length s.net.debts
  pub paid : length s.paid ≡ length s.net.debts
  pub paid_stamps : length s.paid_stamps ≡ length s.net.debts
  pub floor : length s.floor ≡ length s.net.debts
  pub pending : length s.pending ≡ length s.net.debts
  pub owes_ring : length s.owes_ring ≡ length s.net.debts
  pub fresh : length s.fresh ≡ length s.net.banks

-- what holds of all that a seat shows, whatever the other seats do
pub record IsSound (s : Shown) : Type 0 where
  pub network : IsNetwork s.net
  pub over : IsOver s
  pub pays_within : PaysWithin s
  pub sights_below : IsAtMost s.sights (least s.net)
  pub paid_below : IsAtMost s.paid (least s.net)
  pub clock_below : s.clock ≤ units_owed s.net
