use Rattle.std.proofs.Common.{◌≡◌, ◌≤◌, map, take}
use Rattle.std.specs.List.{concat}
use Rattle.clr_edge.specs.Sink.{with_bytes}
use Rattle.clear_top.proofs.message.put_pieces.Given as goal

abbrev pub invariant-loop-piece : goal.invariant-loop-piece
invariant-loop-piece g l = record {
  taken : g.S.Sink.written l.sink ≡ with_bytes (g.S.Sink.written l.initial.sink) (concat (map (λ piece. piece.now) (take l.piece-index l.pieces)));
  no_fall : g.S.Sink.faults l.initial.sink ≤ g.S.Sink.faults l.sink;
}
