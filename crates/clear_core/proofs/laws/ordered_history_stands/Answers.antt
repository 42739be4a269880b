use Rattle.clear_core.proofs.Ordered.{ordered_stands, ordered_is_traced}
use Rattle.clear_core.proofs.laws.ordered_history_stands.Goals as goal

pub returns : goal.returns
returns c net rs history = (ordered_stands net rs history, ordered_is_traced net rs history)
