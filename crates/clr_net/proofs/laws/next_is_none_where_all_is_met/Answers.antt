use Rattle.clr_net.proofs.Award.{next_of-none}
use Rattle.clr_net.proofs.laws.next_is_none_where_all_is_met.Goals as goal

pub returns : goal.returns
returns c = next_of-none
