-- Texts that are put together from the pieces of places.
use Rattle.std.proofs.Common.{◌≡◌, ℕ, ◌+◌, ◌<◌, List, [], ◌∷◌, ◌++◌, Vec, Global, get_or, length, map, sym, ap, ◌∙◌, arith}
use Rattle.std.proofs.lemmas.Grind.{flat_map-append}
use Rattle.std.proofs.lemmas.List.{append-nil, get_or-map}
use Rattle.clr_net.specs.Net.{Net}
use Rattle.clr_net.specs.declared.debt.BankId.{BankId}
use Rattle.cascade.specs.Standings.{bank_numbers}
use Rattle.clear_report.specs.Pieces.{ArePieces}
use Rattle.clear_report.specs.declared.piece.Piece.{Piece}
use Rattle.clear_many.specs.Texts.{text_of}
use Rattle.shares.specs.Made.{AreInOrder}
use Rattle.shares.proofs.InOrder.{read_list, read_off}

-- the piece of the bank i
abbrev pub IsPieceOf : (ℕ → List ℕ) → (ℕ → List ℕ) → ℕ → Piece → Type 0
IsPieceOf line_of lines_of i p = (p.upper.items ≡ line_of i) × (p.lower.items ≡ lines_of i)

-- the pieces of all banks
pub pieces_of_all : (net : Net) (line_of lines_of : ℕ → List ℕ) (pieces : List Piece) → length pieces ≡ length net.banks
    → AreInOrder (IsPieceOf line_of lines_of) 0 pieces → ArePieces line_of lines_of (bank_numbers net) pieces
pieces_of_all net line_of lines_of pieces as_many are = record {
  upper = read_off (IsPieceOf line_of lines_of) (λ p. p.upper.items) line_of 0 (length net.banks) pieces (λ k p is. is.0) as_many are;
  lower = read_off (IsPieceOf line_of lines_of) (λ p. p.lower.items) lines_of 0 (length net.banks) pieces (λ k p is. is.1) as_many are;
}

-- those of some banks, each in the place of its number among them
pub pieces_of_some : (banks : List ℕ) (line_of lines_of : ℕ → List ℕ) (pieces : List Piece) → length pieces ≡ length banks
    → AreInOrder (λ k. IsPieceOf line_of lines_of (get_or banks k 0)) 0 pieces → ArePieces line_of lines_of banks pieces
pieces_of_some banks line_of lines_of pieces as_many are =
    let none = λ (k : ℕ). let e : 0 + k ≡ k = omega arith in e in
    record {
      upper = read_list (λ k. IsPieceOf line_of lines_of (get_or banks k 0)) (λ p. p.upper.items) line_of 0 banks 0 pieces
          (λ k p is. is.0 ∙ ap (λ j. line_of (get_or banks j 0)) (none k)) as_many are;
      lower = read_list (λ k. IsPieceOf line_of lines_of (get_or banks k 0)) (λ p. p.lower.items) lines_of 0 banks 0 pieces
          (λ k p is. is.1 ∙ ap (λ j. lines_of (get_or banks j 0)) (none k)) as_many are;
    }

-- a header, lines, an empty line and a text below them
pub laid_out : (header between below : Vec ℕ Global) (lines : List (Vec ℕ Global))
    → text_of (((([] ++ header ∷ []) ++ lines) ++ between ∷ []) ++ below ∷ [])
    ≡ ((header.items ++ text_of lines) ++ between.items) ++ below.items
laid_out header between below lines = simp (flat_map-append, append-nil)

-- the number of the bank in a place is that of its place among the numbers
pub number_in_place : (banks : List BankId) (numbers : List ℕ) (k : ℕ) (d : BankId) → map (λ b. b.0) banks ≡ numbers
    → k < length banks → (get_or banks k d).0 ≡ get_or numbers k 0
number_in_place banks numbers k d are within =
    sym (get_or-map (λ (b : BankId). b.0) banks k d 0 within) ∙ ap (λ (ns : List ℕ). get_or ns k 0) are
