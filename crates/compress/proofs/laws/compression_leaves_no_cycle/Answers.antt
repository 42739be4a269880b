use Rattle.compress.proofs.Cycles.{no_cycle}
use Rattle.compress.proofs.laws.compression_leaves_no_cycle.Goals as goal

pub returns : goal.returns
returns c = no_cycle
