use Rattle.clr_net.specs.Samples.{chain}
use Rattle.clear_core.specs.Clearing.{spend}
use Rattle.law_tests.proofs.StandingFacts.{never_falls}
use Rattle.law_tests.proofs.standings.greatest_by_what_is_spent.Goals as goal

pub returns : goal.returns
returns c = c.greatest_by_is_greatest.ensures chain (spend chain) never_falls
