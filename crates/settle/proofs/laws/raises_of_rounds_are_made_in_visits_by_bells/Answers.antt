use Rattle.settle.proofs.Made.{made_in_rounds}
use Rattle.settle.proofs.laws.raises_of_rounds_are_made_in_visits_by_bells.Goals as goal

pub returns : goal.returns
returns c = made_in_rounds
