use Rattle.upper.proofs.Tops.{least_le_greatest}
use Rattle.costs.specs.Costs.{cost_spend}
use Rattle.costs.proofs.CostPay.{cost_spend_never_falls}
use Rattle.costs.proofs.laws.cost_least_is_at_most_greatest.Goals as goal

pub returns : goal.returns
returns c net k l = least_le_greatest net (cost_spend net k) (cost_spend_never_falls net k l)
