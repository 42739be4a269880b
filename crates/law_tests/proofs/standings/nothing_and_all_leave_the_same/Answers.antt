use Rattle.std.proofs.Common.{[], ◌∷◌, lit<}
use Rattle.law_tests.specs.Nets.{dry_ring}
use Rattle.law_tests.proofs.StandingFacts.{dry_nothing, dry_all}
use Rattle.law_tests.proofs.standings.nothing_and_all_leave_the_same.Goals as goal

pub returns : goal.returns
returns c = (c.equities_do_not_depend_on_the_payments.ensures dry_ring (0 ∷ 0 ∷ []) (10 ∷ 10 ∷ []) c.dry_ring_is_network.ensures dry_nothing dry_all 0 (lit< tt)).0
