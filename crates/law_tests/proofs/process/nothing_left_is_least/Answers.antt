use Rattle.std.proofs.Common.{[], ◌∷◌, refl}
use Rattle.clr_net.specs.Samples.{chain}
use Rattle.law_tests.proofs.ProcessFacts.{all_below, all_covered}
use Rattle.law_tests.proofs.process.nothing_left_is_least.Goals as goal

pub returns : goal.returns
returns c = c.nothing_left_to_raise_is_least.ensures chain (7 ∷ 8 ∷ []) refl all_below all_covered
