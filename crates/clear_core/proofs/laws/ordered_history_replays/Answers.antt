use Rattle.clear_core.proofs.Ordered.{ordered_replays}
use Rattle.clear_core.proofs.laws.ordered_history_replays.Goals as goal

pub returns : goal.returns
returns c net rs history = ordered_replays net rs history
