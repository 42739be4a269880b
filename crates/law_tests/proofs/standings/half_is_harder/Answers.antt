use Rattle.std.proofs.Common.{[], ◌∷◌}
use Rattle.clr_net.specs.Samples.{chain}
use Rattle.law_tests.specs.Nets.{scenario, loss}
use Rattle.law_tests.proofs.StandingFacts.{milder}
use Rattle.law_tests.proofs.standings.half_is_harder.Goals as goal

pub returns : goal.returns
returns c = c.milder_shock_hurts_nobody.ensures chain (scenario 100 (loss 0 1 ∷ [])) (scenario 500 (loss 0 3 ∷ [])) c.chain_is_network.ensures milder
