-- Texts of two tables, put together from the parts of each bank.
use Rattle.std.proofs.Common.{◌≡◌, ℕ, List, ◌++◌, map, sym, ap, ◌∙◌, append_assoc}
use Rattle.std.specs.List.{flat_map}
use Rattle.std.proofs.Math.Path.{ap₂}
use Rattle.std.proofs.lemmas.List.Folds.{flat_map-map}
use Rattle.clear_report.specs.Pieces.{ArePieces, stacked}
use Rattle.clear_report.specs.Words.{empty_line, one_above_other}
use Rattle.clear_report.specs.declared.piece.Piece.{Piece}

-- texts that are the same one by one are the same one after another
pub all_of : {X Y : Type 0} (read : X → List ℕ) (text_of : Y → List ℕ) (xs : List X) (ys : List Y)
    → map read xs ≡ map text_of ys → flat_map read xs ≡ flat_map text_of ys
all_of read text_of xs ys same =
    sym (flat_map-map (λ (t : List ℕ). t) read xs)
    ∙ ap (flat_map (λ (t : List ℕ). t)) same
    ∙ flat_map-map (λ (t : List ℕ). t) text_of ys

-- so the parts put together are the two tables of all these banks
pub stacked_is : (first second : List ℕ) (line_of lines_of : ℕ → List ℕ) (banks : List ℕ)
    (pieces : List Piece) → ArePieces line_of lines_of banks pieces
    → stacked first second pieces
    ≡ one_above_other (first ++ flat_map line_of banks) (second ++ flat_map lines_of banks)
stacked_is first second line_of lines_of banks pieces are =
    ap₂ (λ (u l : List ℕ). ((first ++ u) ++ empty_line ++ second) ++ l)
    (all_of (λ p. p.upper.items) line_of pieces banks are.upper)
    (all_of (λ p. p.lower.items) lines_of pieces banks are.lower)
    ∙ append_assoc ((first ++ flat_map line_of banks) ++ empty_line) second (flat_map lines_of banks)
