use Rattle.impact.proofs.Others.{own_and_others_are_cash}
use Rattle.impact.proofs.laws.own_loss_and_that_of_others_are_the_cash.Goals as goal

pub returns : goal.returns
returns c = own_and_others_are_cash
