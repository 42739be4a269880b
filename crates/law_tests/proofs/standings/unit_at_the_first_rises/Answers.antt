use Rattle.std.proofs.Common.{lit<}
use Rattle.clr_net.specs.Samples.{chain}
use Rattle.law_tests.proofs.StandingFacts.{passes_on}
use Rattle.law_tests.proofs.standings.unit_at_the_first_rises.Goals as goal

pub returns : goal.returns
returns c = (c.unit_counts_once.ensures chain 0 c.chain_is_network.ensures (lit< tt)).rises passes_on
