-- An empty line, and then the block.
use Rattle.clr_edge.proofs.Passed.{then_pass}
use Rattle.clear_stress.proofs.blocks.UnwrittenBlock.pass_below.Goals as goal

pub returns : goal.returns
returns g c = then_pass c.pass_block.result c.in_ok-pass.ensures c.pass_block.ensures
