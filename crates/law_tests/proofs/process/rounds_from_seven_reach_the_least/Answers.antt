use Rattle.std.proofs.Common.{[], ◌∷◌, refl, lit≤, ◌∙◌}
use Rattle.clr_net.specs.Samples.{chain}
use Rattle.clear_core.specs.Cases.{chain_least}
use Rattle.law_tests.proofs.ProcessFacts.{seven_rises, seven_below}
use Rattle.law_tests.proofs.process.rounds_from_seven_reach_the_least.Goals as goal

pub returns : goal.returns
returns c = c.rounds_go_on_to_the_least.ensures chain (7 ∷ 0 ∷ []) refl seven_rises seven_below 12 (lit≤ tt) ∙ chain_least
