use Rattle.std.proofs.Common.{take}
use Rattle.std.specs.List.{flat_map, zip}
use Rattle.clr_edge.specs.Taking.{on_sink}
use Rattle.clr_edge.proofs.Passed.{HavePassed}
use Rattle.clear_stress.specs.Waiting.{paid_line}
use Rattle.clear_stress.proofs.blocks.pass_lines.Given as goal

-- the lines before this place have passed
abbrev pub invariant-loop-x : goal.invariant-loop-x
invariant-loop-x g l =
    let sink = g.S.Sink in
    HavePassed sink.counts_faults_alone (on_sink sink.written sink.faults l.fn.sink l.sink)
    l.fn.room.items l.room.items (flat_map paid_line (take l.x (zip l.heads l.paid)))
