use Rattle.settle.proofs.AtRest.{nobody_after_round}
use Rattle.settle.proofs.laws.nobody_can_pay_more_once_a_round_ends_with_all_bells_down.Goals as goal

pub returns : goal.returns
returns c = nobody_after_round
