use Rattle.bank_desk.proofs.DesksOf.{desk_of_own_bank}
use Rattle.bank_desk.proofs.laws.desk_knows_its_own_bank_alone.Goals as goal

pub returns : goal.returns
returns c = desk_of_own_bank
