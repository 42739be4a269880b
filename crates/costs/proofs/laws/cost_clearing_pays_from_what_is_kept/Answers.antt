use Rattle.costs.proofs.PayingOut.{cost_pays_out}
use Rattle.costs.proofs.laws.cost_clearing_pays_from_what_is_kept.Goals as goal

pub returns : goal.returns
returns c = cost_pays_out
