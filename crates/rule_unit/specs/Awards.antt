-- Claims and awards: what the debts of one bank are owed, and what each has got so far, in file
-- order.
use Rattle.std.specs.Prelude.{◌≡◌, ℕ, ◌≤◌, List, length, slice_index}

-- no amount of xs is above that of ys in the same place; a place past the end of a list holds 0
abbrev pub IsAtMost : List ℕ → List ℕ → Type 0
IsAtMost xs ys = (k : ℕ) → slice_index xs k ≤ slice_index ys k

-- the awards are as many as the claims, and each is at most its claim
pub record IsWithin (claims awards : List ℕ) : Type 0 where
  pub as_many : length awards ≡ length claims
  pub within : IsAtMost awards claims
