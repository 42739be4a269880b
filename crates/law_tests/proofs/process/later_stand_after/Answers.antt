use Rattle.std.proofs.Common.{[], ◌∷◌}
use Rattle.law_tests.specs.Nets.{two, raise}
use Rattle.law_tests.proofs.ProcessFacts.{later}
use Rattle.law_tests.proofs.process.later_stand_after.Goals as goal

pub returns : goal.returns
returns c = c.later_raises_stand_after.ensures two (raise 4 0 9 ∷ raise 3 1 9 ∷ []) later
