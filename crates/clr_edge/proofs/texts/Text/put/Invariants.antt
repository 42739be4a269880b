use Rattle.std.proofs.Common.{◌≡◌, ◌≤◌, map, take}
use Rattle.std.specs.List.{concat}
use Rattle.clr_edge.specs.Taking.{TakesWhole, on_sink}
use Rattle.clr_edge.proofs.texts.Text.put.Given as goal

-- the pieces before this one have been written
abbrev pub invariant-loop-piece : goal.invariant-loop-piece
invariant-loop-piece g l =
    let sink = g.S.Sink in
    record {
      taken : TakesWhole (on_sink sink.written sink.faults l.initial.sink l.sink)
          (concat (map (λ piece. piece.items) (take l.piece-index l.pieces)));
      no_fall : sink.faults l.initial.sink ≤ sink.faults l.sink;
      well : sink.counts_faults_alone → sink.faults l.sink ≡ sink.faults l.initial.sink;
    }
