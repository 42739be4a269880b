use Rattle.settle.proofs.ByHand.{opened_stands}
use Rattle.settle.proofs.laws.opened_boards_stand_between_rounds.Goals as goal

pub returns : goal.returns
returns c = opened_stands
