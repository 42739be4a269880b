use Rattle.std.proofs.Common.{◌++◌, take}
use Rattle.std.specs.List.{flat_map}
use Rattle.clear_report.specs.Words.{empty_line}
use Rattle.clr_edge.specs.Taking.{on_sink}
use Rattle.clr_edge.proofs.Passed.{HavePassed}
use Rattle.clear_stress.specs.Waiting.{waiting_text}
use Rattle.clear_stress.proofs.blocks.pass_others.Given as goal

-- the blocks before this one have passed
abbrev pub invariant-loop-block : goal.invariant-loop-block
invariant-loop-block g l =
    let sink = g.S.Sink in
    HavePassed sink.counts_faults_alone (on_sink sink.written sink.faults l.fn.sink l.sink)
    l.fn.room.items l.room.items
    (flat_map (λ block. empty_line ++ waiting_text l.heads block) (take l.block-index l.blocks))
