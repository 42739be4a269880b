use Rattle.std.proofs.Common.{◌≡◌, ◌-◌, ◌<◌, ◌≤◌, length, map, sum, take}
use Rattle.clr_net.specs.Division.{class_claims}
use Rattle.rule_level.specs.Levels.{awards_above, step_at}
use Rattle.rule_class.proofs.ClassSets.{IsClassSetTo}
use Rattle.rule_level.proofs.level.set_awards.Given as goal

abbrev pub invariant-loop-left : goal.invariant-loop-left
invariant-loop-left l = record {
  set : IsClassSetTo l.class l.classes (awards_above l.kind l.level l.above (class_claims l.class l.claims l.classes))
      l.fn.into l.first l.into;
  left : l.left ≡ l.above - sum (take l.first (map (step_at l.kind l.level) (class_claims l.class l.claims l.classes)));
  within : l.first ≤ length l.claims;
}

abbrev pub decreases-loop-left : goal.decreases-loop-left
decreases-loop-left l = length l.claims - l.first

abbrev pub invariant-loop-debt : goal.invariant-loop-debt
invariant-loop-debt l = record {
  set : IsClassSetTo l.class l.classes (awards_above l.kind l.level l.above (class_claims l.class l.claims l.classes))
      l.fn.into l.debt l.into;
  none_left : l.debt < length l.claims
      → l.above ≤ sum (take l.debt (map (step_at l.kind l.level) (class_claims l.class l.claims l.classes)));
}
