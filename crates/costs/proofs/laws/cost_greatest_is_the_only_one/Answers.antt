use Rattle.upper.proofs.Tops.{greatest_by_only}
use Rattle.costs.specs.Costs.{cost_spend}
use Rattle.costs.proofs.CostPay.{cost_spend_never_falls}
use Rattle.costs.proofs.laws.cost_greatest_is_the_only_one.Goals as goal

pub returns : goal.returns
returns c net k P l = greatest_by_only net (cost_spend net k) (cost_spend_never_falls net k l) P
