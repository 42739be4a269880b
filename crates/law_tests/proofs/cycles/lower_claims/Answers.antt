use Rattle.std.proofs.Common.{refl}
use Rattle.law_tests.specs.Nets.{cycle, left}
use Rattle.law_tests.proofs.WorkFacts.{left_below}
use Rattle.law_tests.proofs.cycles.lower_claims.Goals as goal

pub returns : goal.returns
returns c = (c.lower_claims_are_a_network.ensures cycle left c.cycle_is_network.ensures refl left_below).0
