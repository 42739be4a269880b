use Rattle.std.proofs.Common.{◌≡◌, ◌-◌}
use Rattle.clr_net.specs.declared.TheConstants.{MAX_CLASS}
use Rattle.rule_unit.specs.Awards.{IsWithin}
use Rattle.rule_class.proofs.InPlace.{in_place_from}
use Rattle.rule_class.proofs.division.share.Given as goal

abbrev pub invariant-loop-class : goal.invariant-loop-class
invariant-loop-class g l = record {
  rest : in_place_from (g.R.UnitRule.choice l.rule) l.claims l.classes l.class (10 - l.class) l.left l.into
      ≡ in_place_from (g.R.UnitRule.choice l.rule) l.claims l.classes 1 MAX_CLASS l.fn.estate l.claims;
  within : IsWithin l.claims l.into;
}
