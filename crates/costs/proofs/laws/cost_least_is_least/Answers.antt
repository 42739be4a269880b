use Rattle.clear_core.proofs.Least.{least_by_is}
use Rattle.costs.specs.Costs.{cost_spend}
use Rattle.costs.proofs.CostPay.{cost_spend_never_falls}
use Rattle.costs.proofs.laws.cost_least_is_least.Goals as goal

pub returns : goal.returns
returns c net k l = least_by_is net (cost_spend net k) (cost_spend_never_falls net k l)
