-- What is made of some places.
use Rattle.std.specs.Prelude.{◌≡◌, ℕ, ◌+◌, ◌-◌, List, [], ◌∷◌, length}
use Rattle.shares.specs.declared.piecework.Made.{Made}

-- the pieces of the places from `low` on, one after another
abbrev pub AreInOrder : {P : Type 0} → (ℕ → P → Type 0) → ℕ → List P → Type 0
AreInOrder is_piece low [] = Unit {0}
AreInOrder is_piece low (p ∷ pieces) = is_piece low p × AreInOrder is_piece (low + 1) pieces

-- the pieces of the places from `low` up to below `high`, in order, and a desk at which all of them
-- were made
pub record IsMade {P D : Type 0} (is_piece : ℕ → P → Type 0) (has_done : ℕ → ℕ → D → Type 0)
    (low high : ℕ) (made : Made P D) : Type 0 where
  pub in_order : AreInOrder is_piece low made.pieces.items
  pub as_many : length made.pieces.items ≡ high - low
  pub at_desk : has_done low high made.desk
