use Rattle.std.proofs.Common.{sym, ◌∙◌, subst}
use Rattle.cascade.proofs.Limits.{clearing_in_limit}
use Rattle.clear_core.proofs.Least.{least_clears}
use Rattle.clear_core.specs.Buffers.{AreInLimit}
use Rattle.clear_core.specs.Clearing.{least}
use Rattle.clear_report.specs.Least.{defaults_report}
use Rattle.clear_stress.specs.declared.blocks.UnwrittenBlock.{UnwrittenBlock}
use Rattle.clear_stress.proofs.Places.{least_places}
use Rattle.clear_stress.proofs.Waits.{block_waits}
use Rattle.clear_stress.proofs.scenarios.wait.Goals as goal

pub in_four_bytes-requires : goal.in_four_bytes-requires
in_four_bytes-requires c =
    let left = c.args.left.now in
    subst AreInLimit (sym c.requires) (clearing_in_limit left (least left) c.banks.ensures.network (least_clears left))

pub returns : goal.returns
returns c = λ heads are.
    let left = c.args.left.now in
    let w : UnwrittenBlock = record { above = c.in_ok-above.above; paid = c.in_ok-in_four_bytes.field-0; below = c.in_ok-below.below } in
    block_waits left heads (least left) are (least_places left) c.args.name.now (defaults_report left) w
    c.in_ok-above.ensures (c.in_ok-in_four_bytes.ensures ∙ c.requires) c.in_ok-below.ensures
