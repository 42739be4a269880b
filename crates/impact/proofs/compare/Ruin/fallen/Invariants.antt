use Rattle.std.proofs.Common.{◌≡◌, ◌≤◌, ◌==◌, not, filter, count_by}
use Rattle.std.specs.List.{range_with_len}
use Rattle.impact.specs.Impact.{falls_with}
use Rattle.impact.proofs.compare.Ruin.fallen.Given as goal

abbrev pub invariant-loop-number : goal.invariant-loop-number
invariant-loop-number l = record {
  counted : l.count ≡ count_by (falls_with l.self.net.now l.self.ruined.0)
      (filter (λ i. not (i == l.self.ruined.0)) (range_with_len 0 l.number));
  few : l.count ≤ l.number;
}
