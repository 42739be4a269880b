use Rattle.std.proofs.Common.{lit≤}
use Rattle.clr_net.specs.Samples.{chain}
use Rattle.law_tests.proofs.StandingFacts.{one_saves}
use Rattle.law_tests.proofs.standings.a_sum_saves_and_a_greater_too.Goals as goal

pub returns : goal.returns
returns c = c.greater_sum_saves_too.ensures chain 1 1 5 c.chain_is_network.ensures (lit≤ tt) one_saves
