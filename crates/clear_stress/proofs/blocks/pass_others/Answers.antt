-- Each block, below an empty line.
use Rattle.std.proofs.Common.{◌+◌, ◌++◌, ℕ, List, drop, arith}
use Rattle.std.specs.List.{flat_map}
use Rattle.std.proofs.lemmas.List.{take_all}
use Rattle.std.proofs.lemmas.Result.{err_from_is_err_and}
use Rattle.clear_report.specs.Words.{empty_line}
use Rattle.clear_stress.specs.Waiting.{waiting_text}
use Rattle.clear_stress.specs.declared.blocks.UnwrittenBlock.{UnwrittenBlock}
use Rattle.clr_edge.proofs.Passed.{front_stops, have_passed, none_yet, one_more, passed_so, then_pass, with_rest}
use Rattle.clear_stress.proofs.blocks.pass_others.Goals as goal

pub loop-block-init : goal.loop-block-init
loop-block-init g c =
    none_yet (g.S.Sink.written c.args.sink.now) (g.S.Sink.faults c.args.sink.now) c.args.room.now.items

pub loop-block-preserved : goal.loop-block-preserved
loop-block-preserved g c =
    let f : UnwrittenBlock → List ℕ = λ block. empty_line ++ waiting_text c.args.heads.now block in
    rw (one_more f c.args.blocks.now c.loop-block.block-index _ _ c.loop-block-test.true c.block-item.is)
    (then_pass _ c.loop-block.invariant (have_passed c.in_ok-pass_below.ensures))

pub returns-in_err-pass_below : goal.returns-in_err-pass_below
returns-in_err-pass_below g c =
    let f : UnwrittenBlock → List ℕ = λ block. empty_line ++ waiting_text c.args.heads.now block in
    let blocks = c.args.blocks.now in
    let i = c.loop-block.block-index in
    let why = err_from_is_err_and c.from_residual.result c.from_residual.ensures.1 in
    rw (with_rest f blocks i _ _ c.loop-block-test.true c.block-item.is)
    (front_stops c.from_residual.result (flat_map f (drop (i + 1) blocks)) why.1
    (then_pass _ c.loop-block.invariant c.in_err-pass_below.ensures))

pub returns : goal.returns
returns g c =
    let all = take_all c.loop-block.block-index c.args.blocks.now (omega (arith, c.loop-block-test.false)) in
    passed_so (rw all at c.loop-block.invariant)
