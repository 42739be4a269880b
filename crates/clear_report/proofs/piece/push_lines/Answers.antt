use Rattle.std.proofs.Common.{◌++◌, ap, ◌∙◌}
use Rattle.raise_journal.proofs.Taken.{taken_more}
use Rattle.clear_report.proofs.piece.push_lines.Goals as goal

pub loop-piece-preserved : goal.loop-piece-preserved
loop-piece-preserved c =
    taken_more (λ p. p.upper.items) c.args.text.now.items c.loop-piece.text.items c.extend_from_slice.new.self.items c.args.pieces.now
    c.loop-piece.piece-index _ c.piece-item.result c.loop-piece-test.true c.piece-item.is c.loop-piece.invariant
    (c.in_ok-extend_from_slice.ensures.items ∙ ap (λ l. c.loop-piece.text.items ++ l) c.as_slice.ensures.value)
