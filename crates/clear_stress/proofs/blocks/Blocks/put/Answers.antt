-- What passes, and what waits in the room then.
use Rattle.std.proofs.Common.{map}
use Rattle.std.proofs.lemmas.Result.{on_ok_weaker, on_err_weaker}
use Rattle.clear_report.specs.Blocks.{stress_text}
use Rattle.clear_stress.specs.Waiting.{waiting_text}
use Rattle.clr_edge.proofs.Passed.{on_err_both, pass_then_rest, pass_then_whole}
use Rattle.clr_edge.proofs.Pieces.{on_err}
use Rattle.clear_stress.proofs.blocks.Blocks.put.Goals as goal

pub returns-in_err-pass_blocks-clause-part : goal.returns-in_err-pass_blocks-clause-part
returns-in_err-pass_blocks-clause-part g c =
    on_err _ (rw (c.clear.ensures.items, c.as_slice.ensures.value, c.as_slice-2.ensures.value) at c.in_err-pass_blocks.ensures.part)

pub returns-clause-written : goal.returns-clause-written
returns-clause-written g c =
    let passed = rw (c.clear.ensures.items, c.as_slice.ensures.value, c.as_slice-2.ensures.value, ← c.as_slice-3.ensures.value)
    at c.in_ok-pass_blocks.ensures.passed in
    on_ok_weaker c.put_all.result
    (λ out. pass_then_whole _ (stress_text (map (waiting_text c.args.self.now.heads.items) c.args.self.now.all.items)) passed out)
    c.put_all.ensures.written

pub returns-clause-part : goal.returns-clause-part
returns-clause-part g c =
    let passed = rw (c.clear.ensures.items, c.as_slice.ensures.value, c.as_slice-2.ensures.value, ← c.as_slice-3.ensures.value)
    at c.in_ok-pass_blocks.ensures.passed in
    on_err_weaker c.put_all.result
    (λ out. pass_then_rest _ (stress_text (map (waiting_text c.args.self.now.heads.items) c.args.self.now.all.items)) passed
    c.pass_blocks.ensures.faults out)
    (on_err_both _ _ _ c.put_all.ensures.part c.put_all.ensures.failed)
