use Rattle.rescue.proofs.LeastSum.{rescue_is}
use Rattle.rescue.proofs.laws.there_is_a_least_sum.Goals as goal

pub returns : goal.returns
returns c = rescue_is
