use Rattle.clear_load.proofs.Shocked.{shocked_back}
use Rattle.clear_load.proofs.laws.a_shocked_network_is_read_back.Goals as goal

pub returns : goal.returns
returns c = shocked_back
