use Rattle.std.proofs.Common.{lit<}
use Rattle.clr_net.specs.Samples.{chain}
use Rattle.law_tests.proofs.standings.ruin_of_the_first.Goals as goal

pub returns : goal.returns
returns c = c.ruin_of_a_bank_costs_its_cash.ensures chain 0 c.chain_is_network.ensures (lit< tt)
