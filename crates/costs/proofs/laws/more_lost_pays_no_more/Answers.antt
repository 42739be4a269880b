use Rattle.costs.proofs.CostLeast.{cost_least_mono}
use Rattle.costs.proofs.laws.more_lost_pays_no_more.Goals as goal

pub returns : goal.returns
returns c = cost_least_mono
