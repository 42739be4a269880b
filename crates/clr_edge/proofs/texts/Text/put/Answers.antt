-- The pieces that were written whole, and of one piece a part.
use Rattle.std.proofs.Common.{map, ap, refl, ◌∙◌, subst, arith}
use Rattle.std.specs.List.{concat}
use Rattle.std.proofs.lemmas.List.{take_all}
use Rattle.clr_edge.specs.Sink.{with_bytes, WritesPart}
use Rattle.clr_edge.proofs.Rises.{risen_since}
use Rattle.clr_edge.proofs.Pieces.{on_err, piece_part, piece_taken, with_nothing}
use Rattle.clr_edge.proofs.texts.Text.put.Goals as goal

pub loop-piece-init : goal.loop-piece-init
loop-piece-init g c = record { taken = with_nothing (g.S.Sink.written c.args.sink.now); no_fall = omega arith; well = λ alone. refl }

pub loop-piece-preserved : goal.loop-piece-preserved
loop-piece-preserved g c =
    let pieces = c.as_slice-pieces.result.now in
    record {
      taken = piece_taken (λ piece. piece.items) pieces c.loop-piece.piece-index _ c.loop-piece-test.true _ _ _
          c.loop-piece.invariant.taken
          (c.in_ok-put_all.ensures.written ∙ ap (with_bytes (g.S.Sink.written c.loop-piece.sink)) (c.as_slice.ensures.value ∙ ap (λ v. v.items) c.piece-item.is));
      no_fall = omega (arith, c.loop-piece.invariant.no_fall, c.put_all.ensures.faults);
      well = λ alone. c.in_ok-put_all.ensures.well alone ∙ c.loop-piece.invariant.well alone;
    }

pub returns-in_err-put_all-clause-part : goal.returns-in_err-put_all-clause-part
returns-in_err-put_all-clause-part g c =
    let start = g.S.Sink.written c.args.sink.now in
    let mid = g.S.Sink.written c.loop-piece.sink in
    let end = g.S.Sink.written c.put_all.new.sink in
    on_err c.from_residual.result (
      subst (WritesPart start end) (ap (λ ps. concat (map (λ piece. piece.items) ps)) c.as_slice-pieces.ensures.value ∙ c.self.view_is)
          (piece_part (λ piece. piece.items) c.as_slice-pieces.result.now c.loop-piece.piece-index _ c.loop-piece-test.true start mid end
          c.loop-piece.invariant.taken
          (subst (WritesPart mid end) (c.as_slice.ensures.value ∙ ap (λ v. v.items) c.piece-item.is) c.in_err-put_all.ensures.part)),
      risen_since _ _ _ c.loop-piece.invariant.no_fall c.in_err-put_all.ensures.failed,
    )

pub returns-clause-written : goal.returns-clause-written
returns-clause-written g c =
    let pieces = c.as_slice-pieces.result.now in
    let all = take_all c.loop-piece.piece-index pieces (omega (arith, c.loop-piece-test.false)) in
    rw (all, c.as_slice-pieces.ensures.value, c.self.view_is) at c.loop-piece.invariant.taken
