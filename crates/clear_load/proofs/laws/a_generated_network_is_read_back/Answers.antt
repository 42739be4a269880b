use Rattle.clear_load.proofs.Made.{generated_back}
use Rattle.clear_load.proofs.laws.a_generated_network_is_read_back.Goals as goal

pub returns : goal.returns
returns c = generated_back
