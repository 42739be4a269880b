-- Payments on which no bank would change anything: each pays on its debts what its rule gives from
-- what it then has.
use Rattle.std.specs.Prelude.{◌≡◌, ℕ, ◌<◌, ◌≤◌, List, length, map, slice_index}
use Rattle.clr_net.specs.Net.{Net, row, claim_of}
use Rattle.clear_core.specs.Clearing.{division, receipts}

-- no debt is paid more than its claim
abbrev pub IsWithinClaims : Net → List ℕ → Type 0
IsWithinClaims net P = (x : ℕ) → slice_index P x ≤ claim_of net x

-- the payments on the row of the bank i are its rule's division of what it may spend
abbrev pub IsQuietAt : Net → List ℕ → ℕ → Type 0
IsQuietAt net P i = map (slice_index P) (row net i) ≡ division net i (receipts net P i)

-- so it is at each bank
abbrev pub IsQuiet : Net → List ℕ → Type 0
IsQuiet net P = (i : ℕ) → i < length net.banks → IsQuietAt net P i

-- the bank i is the first at which it is not so
pub record IsFirstUnquiet (net : Net) (P : List ℕ) (i : ℕ) : Type 0 where
  pub bank : i < length net.banks
  pub unquiet : ¬ (IsQuietAt net P i)
  pub before : (j : ℕ) → j < i → IsQuietAt net P j
