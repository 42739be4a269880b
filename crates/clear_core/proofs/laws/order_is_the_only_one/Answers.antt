use Rattle.clear_core.proofs.OneOrder.{only_order}
use Rattle.clear_core.proofs.laws.order_is_the_only_one.Goals as goal

pub returns : goal.returns
returns c = only_order
