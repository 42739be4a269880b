-- Each line, in file order.
use Rattle.std.proofs.Common.{◌+◌, ◌<◌, drop, get_or, length, sym, arith}
use Rattle.std.specs.List.{flat_map, zip}
use Rattle.std.proofs.lemmas.Grind.{get_or_default_zero}
use Rattle.std.proofs.lemmas.List.{take_all}
use Rattle.std.proofs.lemmas.Result.{err_from_is_err_and}
use Rattle.std.proofs.lemmas.Slice.Zip.{length-zip}
use Rattle.clear_stress.specs.Waiting.{paid_line}
use Rattle.clr_edge.proofs.Passed.{both_at, both_there, front_stops, have_passed, none_yet, one_more, passed_so, then_pass, with_rest}
use Rattle.clear_stress.proofs.blocks.pass_lines.Goals as goal

pub loop-x-init : goal.loop-x-init
loop-x-init g c =
    none_yet (g.S.Sink.written c.args.sink.now) (g.S.Sink.faults c.args.sink.now) c.args.room.now.items

pub loop-x-preserved : goal.loop-x-preserved
loop-x-preserved g c =
    let heads = c.args.heads.now in
    let paid = c.args.paid.now in
    let x = c.loop-x.x in
    let h = c.index-heads-x.result in
    let p = get_or paid x 0 in
    let lh : x < length heads = omega (arith, c.loop-x-test.true, c.min-count.ensures) in
    let lp : x < length paid = omega (arith, c.loop-x-test.true, c.min-count.ensures) in
    rw (one_more paid_line (zip heads paid) x (h, p) (h, p) (both_there heads paid x lh lp)
    (both_at heads paid x lh lp h p c.index-heads-x.is (sym (get_or_default_zero paid x p lp))))
    (then_pass _ c.loop-x.invariant (have_passed (rw c.as_slice.ensures.value at c.in_ok-pass_line.ensures)))

pub returns-in_err-pass_line : goal.returns-in_err-pass_line
returns-in_err-pass_line g c =
    let heads = c.args.heads.now in
    let paid = c.args.paid.now in
    let zs = zip heads paid in
    let x = c.loop-x.x in
    let h = c.index-heads-x.result in
    let p = get_or paid x 0 in
    let lh : x < length heads = omega (arith, c.loop-x-test.true, c.min-count.ensures) in
    let lp : x < length paid = omega (arith, c.loop-x-test.true, c.min-count.ensures) in
    let why = err_from_is_err_and c.from_residual.result c.from_residual.ensures.1 in
    rw (with_rest paid_line zs x (h, p) (h, p) (both_there heads paid x lh lp)
    (both_at heads paid x lh lp h p c.index-heads-x.is (sym (get_or_default_zero paid x p lp))))
    (front_stops c.from_residual.result (flat_map paid_line (drop (x + 1) zs)) why.1
    (then_pass _ c.loop-x.invariant (rw c.as_slice.ensures.value at c.in_err-pass_line.ensures)))

pub returns : goal.returns
returns g c =
    let zs = zip c.args.heads.now c.args.paid.now in
    let all = take_all c.loop-x.x zs
    (omega (arith, c.loop-x-test.false, c.min-count.ensures, length-zip c.args.heads.now c.args.paid.now)) in
    passed_so (rw all at c.loop-x.invariant)
