use Rattle.std.proofs.Common.{ℕ, arith, replicate}
use Rattle.std.proofs.lemmas.Grind.{common_steps}
use Rattle.clr_net.specs.declared.TheConstants.{MAX_CLASS}
use Rattle.clr_net.specs.Division.{AreClasses}
use Rattle.call_tests.proofs.levels.divide_long_row.Goals as goal

-- classes that are all 1
all_first : (n : ℕ) → AreClasses (replicate n 1) 1 MAX_CLASS
all_first n = λ k l. grind (arith, common_steps, l)

pub share_by_level-requires-clause-classed : goal.share_by_level-requires-clause-classed
share_by_level-requires-clause-classed c = all_first 8991
