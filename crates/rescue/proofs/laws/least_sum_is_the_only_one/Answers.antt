use Rattle.rescue.proofs.LeastSum.{rescue_only}
use Rattle.rescue.proofs.laws.least_sum_is_the_only_one.Goals as goal

pub returns : goal.returns
returns c = rescue_only
