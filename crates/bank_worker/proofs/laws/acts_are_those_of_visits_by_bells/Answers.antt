use Rattle.bank_worker.proofs.Telling.{told}
use Rattle.bank_worker.proofs.laws.acts_are_those_of_visits_by_bells.Goals as goal

pub returns : goal.returns
returns c = told
