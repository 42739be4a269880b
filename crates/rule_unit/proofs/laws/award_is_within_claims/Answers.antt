use Rattle.rule_unit.proofs.UnitByUnit.{award_within}
use Rattle.rule_unit.proofs.laws.award_is_within_claims.Goals as goal

pub returns : goal.returns
returns g c = λ rule claims e. award_within (g.R.UnitRule.choice rule) (g.met.R.UnitRule.laws rule) claims e
