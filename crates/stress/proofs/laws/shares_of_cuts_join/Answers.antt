use Rattle.stress.proofs.Descent.{shares_join}
use Rattle.stress.proofs.laws.shares_of_cuts_join.Goals as goal

pub returns : goal.returns
returns c = shares_join
