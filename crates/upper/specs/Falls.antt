-- By how much the receipts of banks fell, and which banks were hit by that.
use Rattle.std.specs.Prelude.{ℕ, ◌+◌, ◌<◌, ◌≤◌, ◌==◌, Bool, List, length, slice_index}
use Rattle.std.specs.Prelude.{slice_index_or, sum_by, if◌then◌else◌, IsTrue}
use Rattle.std.specs.List.{list_any}
use Rattle.clr_net.specs.declared.debt.BankId.{BankId}

-- the number of the bank in the place k of a list
abbrev pub bank_at : List BankId → ℕ → ℕ
bank_at banks k = (slice_index_or banks k (record { 0 = 0 })).0

-- whether the bank i is in a list
abbrev pub is_listed : List BankId → ℕ → Bool
is_listed banks i = list_any (λ b. b.0 == i) banks

-- the list has the banks whose receipts fell, and no others
pub record AreHit (falls : List ℕ) (banks : List BankId) : Type 0 where
  pub known : (k : ℕ) → k < length banks → bank_at banks k < length falls
  pub fell : (k : ℕ) → k < length banks → 0 < slice_index falls (bank_at banks k)
  pub listed : (i : ℕ) → 0 < slice_index falls i → IsTrue (is_listed banks i)

-- how many banks' receipts did not fall
abbrev pub spared : List ℕ → ℕ
spared falls = sum_by (λ units. if units == 0 then 1 else 0) falls

-- the list has those banks, and room for all others
pub record AreKept (falls : List ℕ) (banks : List BankId) (capacity : ℕ) : Type 0 where
  pub hit : AreHit falls banks
  pub each_once : length banks + spared falls ≤ length falls
  pub room : length falls ≤ capacity
