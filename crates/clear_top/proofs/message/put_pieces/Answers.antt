-- The pieces that were written whole, and of one piece a part.
use Rattle.std.proofs.Common.{◌∙◌, inr, sym, arith}
use Rattle.clr_edge.proofs.Rises.{risen_since}
use Rattle.clr_edge.proofs.Pieces.{piece_taken, piece_part, on_ok_of, on_err_of}
use Rattle.clear_top.proofs.message.put_pieces.Goals as goal

pub returns-then-is_err : goal.returns-then-is_err
returns-then-is_err g c =
    let err = sym c.is_err.ensures.value ∙ c.if-is_err.true in
    inr (
      piece_part (λ p. p.now) c.args.pieces.now c.loop-piece.piece-index _ c.loop-piece-test.true _ _ _
          c.loop-piece.invariant.taken (on_err_of c.put_all.result err c.put_all.ensures.part),
      risen_since _ _ _ c.loop-piece.invariant.no_fall (on_err_of c.put_all.result err c.put_all.ensures.failed),
    )

pub loop-piece-preserved : goal.loop-piece-preserved
loop-piece-preserved g c =
    let ok = sym c.is_err.ensures.value ∙ c.if-is_err.false in
    record {
      taken = piece_taken (λ p. p.now) c.args.pieces.now c.loop-piece.piece-index _ c.loop-piece-test.true _ _ _ c.loop-piece.invariant.taken
          (on_ok_of c.put_all.result ok c.put_all.ensures.written);
      no_fall = omega (arith, c.loop-piece.invariant.no_fall, c.put_all.ensures.faults);
    }
