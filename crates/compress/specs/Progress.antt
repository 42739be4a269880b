-- How far a compression has come, class by class.
use Rattle.std.specs.Prelude.{◌≡◌, ℕ, ◌+◌, ◌*◌, ◌<◌, ◌≤◌, List, length, slice_index}
use Rattle.clr_net.specs.declared.TheConstants.{MAX_CLASS}
use Rattle.clr_net.specs.Amounts.{IsAtMost}
use Rattle.clr_net.specs.Net.{Net}
use Rattle.clr_net.specs.Claims.{all_claims}
use Rattle.compress.specs.Compression.{IsBalanceKept, rank_of, rank_above}

-- the classes before the class c are done: no cycle is left in them, and their banks have their
-- numbers
pub record IsCompressedTo (net : Net) (c : ℕ) (C R : List ℕ) : Type 0 where
  pub as_many : length C ≡ length net.debts
  pub within : IsAtMost C (all_claims net)
  pub balances : (k b : ℕ) → IsBalanceKept net C k b
  pub places : length R ≡ MAX_CLASS * length net.banks
  pub ranks : (k i : ℕ) → 1 ≤ k → k < c → i < length net.banks
      → rank_of net R k i ≡ rank_above net C (rank_of net R k) k i

-- a list stands in another from a place on, which is otherwise as before
pub record IsWrittenAt (place : ℕ) (here before after : List ℕ) : Type 0 where
  pub as_many : length after ≡ length before
  pub written : (b : ℕ) → b < length here → slice_index after (place + b) ≡ slice_index here b
  pub others : (k : ℕ) → k < place → slice_index after k ≡ slice_index before k
