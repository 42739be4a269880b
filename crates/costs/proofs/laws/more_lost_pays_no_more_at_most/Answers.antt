use Rattle.costs.proofs.CostGreatest.{cost_greatest_mono}
use Rattle.costs.proofs.laws.more_lost_pays_no_more_at_most.Goals as goal

pub returns : goal.returns
returns c = cost_greatest_mono
