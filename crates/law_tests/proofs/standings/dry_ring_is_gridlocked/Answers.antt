use Rattle.law_tests.specs.Nets.{dry_ring}
use Rattle.law_tests.proofs.StandingFacts.{is_stuck}
use Rattle.law_tests.proofs.standings.dry_ring_is_gridlocked.Goals as goal

pub returns : goal.returns
returns c = ((c.gridlock_is_default_that_the_greatest_mend.ensures dry_ring 0 c.dry_ring_is_network.ensures).0 is_stuck).0
