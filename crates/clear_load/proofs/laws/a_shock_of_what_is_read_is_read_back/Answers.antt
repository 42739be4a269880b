use Rattle.clear_load.proofs.Shocked.{shocked_after_reading}
use Rattle.clear_load.proofs.laws.a_shock_of_what_is_read_is_read_back.Goals as goal

pub returns : goal.returns
returns c = shocked_after_reading
