-- The claims of one class apart from the others, and the awards of the classes above it.
use Rattle.std.specs.Prelude.{◌≡◌, ℕ, ◌<◌, ◌≤◌, List, length, map, sum, slice_index}

-- whatever gives nothing of nothing adds up over both lists to the same: they differ in zeros alone
abbrev pub AddUpAlike : List ℕ → List ℕ → Type 0
AddUpAlike xs ys = (f : ℕ → ℕ) → f 0 ≡ 0 → sum (map f xs) ≡ sum (map f ys)

-- the debts of classes above c have 0, and all others what they had
pub record IsClearedAbove (c : ℕ) (classes had now : List ℕ) : Type 0 where
  pub as_many : length now ≡ length had
  pub above : (k : ℕ) → c < slice_index classes k → slice_index now k ≡ 0
  pub others : (k : ℕ) → slice_index classes k ≤ c → slice_index now k ≡ slice_index had k
