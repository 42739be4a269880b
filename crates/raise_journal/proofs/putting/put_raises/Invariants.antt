use Rattle.std.proofs.Common.{◌≡◌, ◌-◌, ◌≤◌, length, take, vec_capacity}
use Rattle.std.specs.List.{flat_map}
use Rattle.raise_journal.specs.Texts.{raise_line}
use Rattle.raise_journal.specs.declared.TheConstants.{ROOM}
use Rattle.clr_edge.specs.Taking.{TakesWhole, on_sink}
use Rattle.raise_journal.proofs.putting.put_raises.Given as goal

-- the lines before this place have been written, and the room is no smaller
abbrev pub invariant-loop-done : goal.invariant-loop-done
invariant-loop-done g l =
    let sink = g.S.Sink in
    record {
      within : l.done ≤ length l.raises;
      room : ROOM ≤ vec_capacity l.room;
      written : TakesWhole (on_sink sink.written sink.faults l.fn.sink l.sink)
          (flat_map (raise_line l.net) (take l.done l.raises));
      no_fall : sink.faults l.fn.sink ≤ sink.faults l.sink;
      well : sink.counts_faults_alone → sink.faults l.sink ≡ sink.faults l.fn.sink;
    }

abbrev pub decreases-loop-done : goal.decreases-loop-done
decreases-loop-done g l = length l.raises - l.done
