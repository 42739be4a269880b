use Rattle.rule_unit.proofs.UnitByUnit.{awards_within}
use Rattle.rule_unit.proofs.laws.awards_stay_within_claims.Goals as goal

pub returns : goal.returns
returns g c = λ rule claims awards d w. awards_within (g.R.UnitRule.choice rule) (g.met.R.UnitRule.laws rule) claims awards d w
