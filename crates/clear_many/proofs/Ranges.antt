-- Shares of a list, one after another.
use Rattle.std.proofs.Common.{◌≡◌, ℕ, ◌+◌, ◌-◌, ◌≤◌, List, ◌++◌, drop, length, slice_range, refl, arith}
use Rattle.std.proofs.Math.Seq.{take-add}
use Rattle.std.proofs.lemmas.List.{drop-drop, length-drop, length-take}

-- two shares side by side are one share
pub ranges_join : {A : Type 0} (xs : List A) (low middle high : ℕ) → low ≤ middle → middle ≤ high
    → slice_range xs low high ≡ slice_range xs low middle ++ slice_range xs middle high
ranges_join xs low middle high l m =
    let count : high - low ≡ (middle - low) + (high - middle) = omega arith in
    let at : low + (middle - low) ≡ middle = omega arith in
    rw (count, take-add (middle - low) (high - middle) (drop low xs), drop-drop (middle - low) low xs, at) refl

-- a share is no longer than the list
pub range_fits : {A : Type 0} (xs : List A) (low high : ℕ) → length (slice_range xs low high) ≤ length xs
range_fits xs low high = omega (arith, length-take (high - low) (drop low xs), length-drop low xs)
