use Rattle.clear_core.proofs.Ordered.{ordered_after_all}
use Rattle.clear_core.proofs.laws.later_raises_stand_after.Goals as goal

pub returns : goal.returns
returns c = ordered_after_all
