use Rattle.std.proofs.Common.{◌≡◌, ◌*◌, ◌≤◌, slice_index, sum_by, take}
use Rattle.clear_report.proofs.sums.total.Given as goal

abbrev pub invariant-loop-standing : goal.invariant-loop-standing
invariant-loop-standing g l = record {
  total_is : l.total
      ≡ sum_by (λ s. slice_index (g.S.Stands.units s) l.fn.place) (take l.standing-index l.all);
  in_limit : l.total ≤ l.standing-index * 0xFFFFFFFFFFFFFFFF;
}
