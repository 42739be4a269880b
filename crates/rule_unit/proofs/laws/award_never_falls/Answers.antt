use Rattle.std.proofs.Common.{length, replicate}
use Rattle.rule_unit.proofs.UnitByUnit.{awards_mono}
use Rattle.rule_unit.proofs.laws.award_never_falls.Goals as goal

pub returns : goal.returns
returns g c = λ rule claims d e l. awards_mono (g.R.UnitRule.choice rule) claims (replicate (length claims) 0) d e l
