use Rattle.std.proofs.Common.{◌≡◌, ◌+◌, sum}
use Rattle.rule_unit.specs.Awards.{IsWithin}
use Rattle.rule_unit.specs.Units.{awards_after}
use Rattle.rule_unit.proofs.units.award_more.Given as goal

abbrev pub invariant-loop-given : goal.invariant-loop-given
invariant-loop-given g l = record {
  given_out : l.awards ≡ awards_after (g.R.UnitRule.choice l.rule) l.claims l.initial.awards l.given;
  none_lost : sum l.awards ≡ sum l.initial.awards + l.given;
  still_within : IsWithin l.claims l.awards;
}
