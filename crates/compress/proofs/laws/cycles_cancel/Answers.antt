use Rattle.compress.proofs.Cycles.{cycle_keeps}
use Rattle.compress.proofs.laws.cycles_cancel.Goals as goal

pub returns : goal.returns
returns c = cycle_keeps
