use Rattle.cascade.proofs.Ruin.{costs_its_cash}
use Rattle.cascade.proofs.laws.ruin_of_a_bank_costs_its_cash.Goals as goal

pub returns : goal.returns
returns c = costs_its_cash
