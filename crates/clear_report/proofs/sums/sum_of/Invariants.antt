use Rattle.std.proofs.Common.{◌≡◌, ◌*◌, ◌≤◌, sum, take}
use Rattle.clear_report.proofs.sums.sum_of.Given as goal

abbrev pub invariant-loop-unit : goal.invariant-loop-unit
invariant-loop-unit l = record {
  total_is : l.total ≡ sum (take l.unit-index l.units);
  in_limit : l.total ≤ l.unit-index * 0xFFFFFFFFFFFFFFFF;
}
