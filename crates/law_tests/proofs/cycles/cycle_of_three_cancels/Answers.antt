use Rattle.std.proofs.Common.{[], ◌∷◌, refl}
use Rattle.law_tests.specs.Nets.{cycle}
use Rattle.law_tests.proofs.WorkFacts.{can_lower, of_class_1}
use Rattle.law_tests.proofs.cycles.cycle_of_three_cancels.Goals as goal

pub returns : goal.returns
returns c = c.cycles_cancel.ensures cycle (5 ∷ 3 ∷ 4 ∷ []) 3 1 1 0 0 (0 ∷ 1 ∷ 2 ∷ []) refl can_lower of_class_1 (refl, (refl, (refl, refl))) refl
