use Rattle.upper.proofs.Tops.{rounds_come_to}
use Rattle.costs.specs.Costs.{cost_spend}
use Rattle.costs.proofs.CostPay.{cost_spend_never_falls}
use Rattle.costs.proofs.laws.rounds_with_costs_come_to_the_greatest.Goals as goal

pub returns : goal.returns
returns c net k n l = rounds_come_to net (cost_spend net k) (cost_spend_never_falls net k l) n
