use Rattle.rule_unit.proofs.UnitByUnit.{awards_mono}
use Rattle.rule_unit.proofs.laws.awards_never_fall.Goals as goal

pub returns : goal.returns
returns g c = λ rule claims awards d e l. awards_mono (g.R.UnitRule.choice rule) claims awards d e l
