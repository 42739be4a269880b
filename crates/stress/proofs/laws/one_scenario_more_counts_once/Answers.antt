use Rattle.stress.proofs.Outcomes.{one_scenario_more}
use Rattle.stress.proofs.laws.one_scenario_more_counts_once.Goals as goal

pub returns : goal.returns
returns c = one_scenario_more
