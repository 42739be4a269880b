use Rattle.std.proofs.Common.{◌∙◌, take, arith, length-drop}
use Rattle.std.proofs.lemmas.List.{take_rest}
use Rattle.clr_edge.specs.Sink.{with_bytes}
use Rattle.clr_edge.proofs.Written.{with_bytes-front}
use Rattle.clr_edge.proofs.sink.put_all.Goals as goal

pub loop-done-preserved : goal.loop-done-preserved
loop-done-preserved g c =
    let before = c.loop-done.invariant in
    let put = c.in_ok-done.ensures in
    let n = c.in_ok-done.field-0 in
    let rest = take_rest c.args.bytes.now c.loop-done.done in
    record {
      within = omega (arith, put.within, length-drop c.loop-done.done c.args.bytes.now);
      written = put.written
          ∙ (λ i. with_bytes (before.written i) (take n (rest i)))
          ∙ with_bytes-front (g.S.Sink.written c.args.sink.now) c.args.bytes.now c.loop-done.done n;
      no_fall = omega (arith, before.no_fall, put.faults);
      well = λ alone. put.well alone ∙ before.well alone;
    }

-- where all bytes were put nothing is said of a part
pub returns-clause-part : goal.returns-clause-part
returns-clause-part g c = tt

-- nor of a fault
pub returns-clause-failed : goal.returns-clause-failed
returns-clause-failed g c = tt
