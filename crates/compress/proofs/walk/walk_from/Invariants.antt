use Rattle.std.proofs.Common.{◌≡◌, ◌+◌, sum, sum_by}
use Rattle.compress.specs.Walk.{IsKept, IsUnderWay, steps_left}
use Rattle.compress.proofs.walk.walk_from.Given as goal

abbrev pub invariant-loop-claims : goal.invariant-loop-claims
invariant-loop-claims l = record {
  under_way : IsUnderWay l.net l.class l.claims l.walk;
  start : l.walk.start ≡ l.fn.start;
  kept : IsKept l.net l.class l.fn.claims l.claims l.fn.walk.marks.items l.walk.marks.items;
}

abbrev pub decreases-loop-claims : goal.decreases-loop-claims
decreases-loop-claims l = sum l.claims + sum_by steps_left l.walk.marks.items
