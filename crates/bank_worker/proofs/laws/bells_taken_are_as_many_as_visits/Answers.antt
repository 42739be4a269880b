use Rattle.bank_worker.proofs.Telling.{takes_counted}
use Rattle.bank_worker.proofs.laws.bells_taken_are_as_many_as_visits.Goals as goal

pub returns : goal.returns
returns c = takes_counted
