-- The text, the lines of the journal and the line that closes it, one after another.
use Rattle.std.proofs.Common.{◌∙◌, arith}
use Rattle.std.proofs.lemmas.Result.{on_ok_weaker, on_err_weaker}
use Rattle.clr_edge.proofs.Pieces.{on_err, part_in_front, whole_then_part, whole_then_whole}
use Rattle.clear_top.proofs.recorded.Recorded.put.Goals as goal

pub returns-in_err-put_raises-in-Some-clause-part : goal.returns-in_err-put_raises-in-Some-clause-part
returns-in_err-put_raises-in-Some-clause-part g c =
    rw c.in-Some.is (rw (← c.net.ensures) (rw (← c.journal.ensures)
    (on_err c.from_residual-in_err-put_raises-in-Some.result
    (part_in_front _
    (whole_then_part _ _ _ c.in_ok-put.ensures.written c.put.ensures.faults c.in_err-put_raises-in-Some.ensures.part)))))

pub returns-in_ok-put_raises-in-Some-clause-written : goal.returns-in_ok-put_raises-in-Some-clause-written
returns-in_ok-put_raises-in-Some-clause-written g c =
    rw c.in-Some.is (rw (← c.net.ensures) (rw (← c.journal.ensures)
    (on_ok_weaker c.put-in-Some.result
    (λ last. whole_then_whole _ _ _
    (whole_then_whole _ _ _ c.in_ok-put.ensures.written c.in_ok-put_raises-in-Some.ensures.written) last)
    c.put-in-Some.ensures.written)))

pub returns-in_ok-put_raises-in-Some-clause-part : goal.returns-in_ok-put_raises-in-Some-clause-part
returns-in_ok-put_raises-in-Some-clause-part g c =
    rw c.in-Some.is (rw (← c.net.ensures) (rw (← c.journal.ensures)
    (on_err_weaker c.put-in-Some.result
    (λ last. whole_then_part _ _ _
    (whole_then_whole _ _ _ c.in_ok-put.ensures.written c.in_ok-put_raises-in-Some.ensures.written)
    (omega (arith, c.put.ensures.faults, c.put_raises.ensures.faults)) last)
    c.put-in-Some.ensures.part)))

pub returns-in_ok-put_raises-in-Some-clause-well : goal.returns-in_ok-put_raises-in-Some-clause-well
returns-in_ok-put_raises-in-Some-clause-well g c = λ alone.
    on_ok_weaker c.put-in-Some.result
    (λ last. last ∙ (c.in_ok-put_raises-in-Some.ensures.well alone ∙ c.in_ok-put.ensures.well alone))
    (c.put-in-Some.ensures.well alone)
