-- What each bank receives and pays, kept as sums beside the payments.
use Rattle.std.specs.Prelude.{◌≡◌, ◌≢◌, ℕ, ◌<◌, List, length, slice_index_or}
use Rattle.clr_net.specs.Net.{Net}
use Rattle.clear_core.specs.Clearing.{paid_by, receipts}
use Rattle.clear_core.specs.declared.payments.Payments.{Payments}
use Rattle.clear_core.specs.declared.payments.Sums.{Sums}

-- for each bank, in file order, what it receives and pays under the payments P
pub record AreSums (net : Net) (P : List ℕ) (sums : List Sums) : Type 0 where
  pub for_each_bank : length sums ≡ length net.banks
  pub received : (i : ℕ) (none : Sums) → i < length net.banks
      → (slice_index_or sums i none).received ≡ receipts net P i
  pub paid : (i : ℕ) (none : Sums) → i < length net.banks
      → (slice_index_or sums i none).paid ≡ paid_by net P i

-- so it is, but for what the bank i pays
pub record AreSumsBut (net : Net) (i : ℕ) (P : List ℕ) (sums : List Sums) : Type 0 where
  pub for_each_bank : length sums ≡ length net.banks
  pub received : (j : ℕ) (none : Sums) → j < length net.banks
      → (slice_index_or sums j none).received ≡ receipts net P j
  pub paid : (j : ℕ) (none : Sums) → j < length net.banks → j ≢ i
      → (slice_index_or sums j none).paid ≡ paid_by net P j

-- payments have their sums
abbrev pub HaveSums : Net → Payments → Type 0
HaveSums net payments = AreSums net payments.paid payments.sums.items
