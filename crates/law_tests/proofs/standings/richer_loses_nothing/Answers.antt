use Rattle.clr_net.specs.Samples.{chain}
use Rattle.law_tests.specs.Nets.{richer}
use Rattle.law_tests.proofs.StandingFacts.{more}
use Rattle.law_tests.proofs.standings.richer_loses_nothing.Goals as goal

pub returns : goal.returns
returns c = c.more_cash_hurts_nobody.ensures chain richer c.chain_is_network.ensures more
