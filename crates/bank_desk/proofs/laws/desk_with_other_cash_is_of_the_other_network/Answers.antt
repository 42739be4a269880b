use Rattle.bank_desk.proofs.DesksOf.{desk_of_other_cash}
use Rattle.bank_desk.proofs.laws.desk_with_other_cash_is_of_the_other_network.Goals as goal

pub returns : goal.returns
returns c = desk_of_other_cash
