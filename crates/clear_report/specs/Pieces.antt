-- Texts of two tables, in which a bank has a line in the first and some in the second: the part of
-- each bank is made apart.
use Rattle.std.specs.Prelude.{◌≡◌, ℕ, List, ◌++◌, map}
use Rattle.std.specs.List.{flat_map}
use Rattle.clear_report.specs.Words.{empty_line}
use Rattle.clear_report.specs.declared.piece.Piece.{Piece}

-- the parts of these banks: each has its line and its lines
pub record ArePieces (line_of lines_of : ℕ → List ℕ) (banks : List ℕ) (pieces : List Piece)
    : Type 0 where
  pub upper : map (λ p. p.upper.items) pieces ≡ map line_of banks
  pub lower : map (λ p. p.lower.items) pieces ≡ map lines_of banks

-- the first table of some parts, and what begins the second: an empty line and its header
abbrev pub begun : List ℕ → List ℕ → List Piece → List ℕ
begun first second pieces = (first ++ flat_map (λ p. p.upper.items) pieces) ++ empty_line ++ second

-- the whole text of some parts: below these all that stands in the second table
abbrev pub stacked : List ℕ → List ℕ → List Piece → List ℕ
stacked first second pieces = begun first second pieces ++ flat_map (λ p. p.lower.items) pieces
