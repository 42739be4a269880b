use Rattle.settle.proofs.Made.{journal_made}
use Rattle.settle.proofs.laws.raises_of_a_run_are_made_in_visits_by_bells.Goals as goal

pub returns : goal.returns
returns c = journal_made
