-- What stands above the lines, the lines, and what stands below them, one after another.
use Rattle.std.proofs.lemmas.Result.{err_from_is_err_and}
use Rattle.clr_edge.proofs.Passed.{front_stops, then_pass}
use Rattle.clear_stress.proofs.blocks.UnwrittenBlock.pass_block.Goals as goal

pub returns-in_err-pass_lines : goal.returns-in_err-pass_lines
returns-in_err-pass_lines g c =
    let last = c.from_residual-in_err-pass_lines in
    let why = err_from_is_err_and last.result last.ensures.1 in
    rw (← c.as_slice.ensures.value, ← c.as_slice-2.ensures.value)
    (then_pass last.result c.in_ok-pass.ensures (front_stops last.result c.args.self.now.below.items why.1 c.in_err-pass_lines.ensures))

pub returns : goal.returns
returns g c =
    rw (← c.as_slice.ensures.value, ← c.as_slice-2.ensures.value, ← c.as_slice-3.ensures.value)
    (then_pass c.pass-2.result c.in_ok-pass.ensures
    (then_pass c.pass-2.result c.in_ok-pass_lines.ensures c.pass-2.ensures))
