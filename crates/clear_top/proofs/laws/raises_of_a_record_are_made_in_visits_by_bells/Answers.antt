use Rattle.clear_top.proofs.Records.{by_bells}
use Rattle.clear_top.proofs.laws.raises_of_a_record_are_made_in_visits_by_bells.Goals as goal

pub returns : goal.returns
returns c = λ shelf sink job e sealed. by_bells shelf sink job sealed e.status e.sealed
