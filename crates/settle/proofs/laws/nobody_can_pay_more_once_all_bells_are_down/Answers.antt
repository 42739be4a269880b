use Rattle.settle.proofs.AllDown.{nobody_once_down}
use Rattle.settle.proofs.laws.nobody_can_pay_more_once_all_bells_are_down.Goals as goal

pub returns : goal.returns
returns c = nobody_once_down
