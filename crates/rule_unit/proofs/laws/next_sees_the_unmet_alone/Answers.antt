use Rattle.rule_unit.proofs.LeftOut.{choice_agree}
use Rattle.rule_unit.proofs.laws.next_sees_the_unmet_alone.Goals as goal

pub returns : goal.returns
returns g c = λ rule claims awards other_claims other_awards w v agree.
    choice_agree (g.R.UnitRule.choice rule) (g.met.R.UnitRule.laws rule) claims awards other_claims other_awards w v agree
