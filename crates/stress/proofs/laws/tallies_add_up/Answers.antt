use Rattle.stress.proofs.Outcomes.{tallies_add_up}
use Rattle.stress.proofs.laws.tallies_add_up.Goals as goal

pub returns : goal.returns
returns c = tallies_add_up
