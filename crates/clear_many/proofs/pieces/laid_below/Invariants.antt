use Rattle.std.proofs.Common.{◌≡◌, ◌++◌}
use Rattle.std.specs.List.{flat_map}
use Rattle.std.specs.Vec.Iter.{into_iter_items}
use Rattle.clear_report.specs.declared.piece.Piece.{Piece}
use Rattle.clear_many.specs.Texts.{text_of}
use Rattle.clear_many.proofs.pieces.laid_below.Given as goal

-- what is laid down and what is still to come are all
abbrev pub invariant-loop-piece : goal.invariant-loop-piece
invariant-loop-piece l =
    text_of l.all.items ++ flat_map (λ (p : Piece). p.lower.items) (into_iter_items l.piece-iterator)
    ≡ l.fn.begun.items ++ flat_map (λ (p : Piece). p.lower.items) l.fn.pieces.items
