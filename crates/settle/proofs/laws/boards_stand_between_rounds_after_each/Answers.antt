use Rattle.settle.proofs.ByHand.{stands_again}
use Rattle.settle.proofs.laws.boards_stand_between_rounds_after_each.Goals as goal

pub returns : goal.returns
returns c = stands_again
