use Rattle.settle.proofs.AtRest.{next_raises_nothing, nobody_in_run}
use Rattle.settle.proofs.laws.a_run_ends_with_the_next_round_once_all_bells_are_down.Goals as goal

pub returns-clause-nobody : goal.returns-clause-nobody
returns-clause-nobody c = nobody_in_run

pub returns-clause-last : goal.returns-clause-last
returns-clause-last c = next_raises_nothing
