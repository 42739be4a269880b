use Rattle.clear_core.proofs.Least.{nothing_left_to_raise}
use Rattle.clear_core.proofs.laws.nothing_left_to_raise_is_least.Goals as goal

pub returns : goal.returns
returns c = nothing_left_to_raise
