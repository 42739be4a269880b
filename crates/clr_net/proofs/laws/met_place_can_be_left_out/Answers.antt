use Rattle.clr_net.proofs.LeftOut.{next_of-remove}
use Rattle.clr_net.proofs.laws.met_place_can_be_left_out.Goals as goal

pub returns : goal.returns
returns c = next_of-remove
