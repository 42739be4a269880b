use Rattle.std.proofs.Common.{lit<}
use Rattle.clr_net.specs.Samples.{chain}
use Rattle.law_tests.proofs.standings.ruin_comes_to_seven.Goals as goal

pub returns : goal.returns
returns c = c.own_loss_and_that_of_others_are_the_cash.ensures chain 0 c.chain_is_network.ensures (lit< tt)
