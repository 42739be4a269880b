-- Some debts are lowered one after another, each by the same.
use Rattle.std.specs.Prelude.{ℕ, ◌-◌, ◌<◌, ◌≤◌, List, [], ◌∷◌, length, slice_index, slice_set}

-- the claims once those of the debts were lowered by m each
abbrev pub lowered : List ℕ → ℕ → List ℕ → List ℕ
lowered C m [] = C
lowered C m (x ∷ xs) = lowered (slice_set C x (slice_index C x - m)) m xs

-- each of the claims is at least m when its turn comes
abbrev pub CanLower : List ℕ → ℕ → List ℕ → Type 0
CanLower C m [] = Unit {0}
CanLower C m (x ∷ xs) =
    (x < length C) × (m ≤ slice_index C x) × CanLower (slice_set C x (slice_index C x - m)) m xs
