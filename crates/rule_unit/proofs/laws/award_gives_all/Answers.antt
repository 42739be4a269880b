use Rattle.rule_unit.proofs.UnitByUnit.{sum_award}
use Rattle.rule_unit.proofs.laws.award_gives_all.Goals as goal

pub returns : goal.returns
returns g c = λ rule claims e. sum_award (g.R.UnitRule.choice rule) (g.met.R.UnitRule.laws rule) claims e
