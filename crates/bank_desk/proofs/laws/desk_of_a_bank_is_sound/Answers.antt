use Rattle.bank_desk.proofs.DesksOf.{desk_of_is_sound}
use Rattle.bank_desk.proofs.laws.desk_of_a_bank_is_sound.Goals as goal

pub returns : goal.returns
returns c = desk_of_is_sound
