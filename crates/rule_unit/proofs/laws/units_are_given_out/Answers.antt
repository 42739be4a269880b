use Rattle.rule_unit.proofs.UnitByUnit.{sum_awards}
use Rattle.rule_unit.proofs.laws.units_are_given_out.Goals as goal

pub returns : goal.returns
returns g c = λ rule claims awards d w. sum_awards (g.R.UnitRule.choice rule) (g.met.R.UnitRule.laws rule) claims awards d w
