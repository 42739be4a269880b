-- The debts of one class set to awards of their own.
use Rattle.std.specs.Prelude.{◌≡◌, ◌≢◌, ℕ, List, length, slice_index}

-- the debts of the class c have their awards of the list own, and those of other classes what they
-- had
pub record IsClassSet (c : ℕ) (classes own had now : List ℕ) : Type 0 where
  pub as_many : length now ≡ length had
  pub here : (k : ℕ) → slice_index classes k ≡ c → slice_index now k ≡ slice_index own k
  pub others : (k : ℕ) → slice_index classes k ≢ c → slice_index now k ≡ slice_index had k
