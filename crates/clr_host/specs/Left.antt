-- What a put that failed leaves.
use Rattle.std.specs.Prelude.{ℕ, List, take, Option}
use Rattle.std.specs.Io.KnownBytes.{Appends}

-- the known bytes grew by some from the front of the piece, if by any
abbrev pub GrowsByPart : Option (List ℕ) → Option (List ℕ) → List ℕ → Type 0
GrowsByPart old new piece = (n : ℕ) × Appends old new (take n piece)
