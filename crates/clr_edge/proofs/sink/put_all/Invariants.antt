use Rattle.std.proofs.Common.{◌≡◌, ◌-◌, ◌≤◌, length, take}
use Rattle.clr_edge.specs.Sink.{with_bytes}
use Rattle.clr_edge.proofs.sink.put_all.Given as goal

-- what is done has been written
abbrev pub invariant-loop-done : goal.invariant-loop-done
invariant-loop-done g l =
    let sink = g.S.Sink in
    record {
      within : l.done ≤ length l.bytes;
      written : sink.written l.sink ≡ with_bytes (sink.written l.fn.sink) (take l.done l.bytes);
      no_fall : sink.faults l.fn.sink ≤ sink.faults l.sink;
      well : sink.counts_faults_alone → sink.faults l.sink ≡ sink.faults l.fn.sink;
    }

abbrev pub decreases-loop-done : goal.decreases-loop-done
decreases-loop-done g l = length l.bytes - l.done
