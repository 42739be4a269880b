use Rattle.std.proofs.Common.{arith}
use Rattle.std.proofs.lemmas.List.{map_push}
use Rattle.std.proofs.lemmas.List.FromFn.{map-range_with_len_more}
use Rattle.clear_report.specs.Text.{head_of}
use Rattle.clear_report.proofs.heads.line_heads.Goals as goal

pub loop-x-preserved : goal.loop-x-preserved
loop-x-preserved c =
    let x = c.loop-x.x in
    rw c.in_ok-push.ensures.items
    (rw (map-range_with_len_more (head_of c.args.net.now) 0 x x (omega arith))
    (rw (← c.loop-x.invariant, ← c.in_ok-line_head.ensures) (map_push (λ h. h.items) _ _)))
