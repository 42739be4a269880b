use Rattle.law_tests.proofs.WorkFacts.{runs_round}
use Rattle.law_tests.proofs.cycles.something_runs_round_the_cycle.Goals as goal

pub returns : goal.returns
returns c = runs_round
