use Rattle.costs.proofs.PayingOut.{cost_adds_up}
use Rattle.costs.proofs.laws.cost_clearing_adds_up.Goals as goal

pub returns : goal.returns
returns c = cost_adds_up
