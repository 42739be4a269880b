use Rattle.std.proofs.Common.{◌≡◌, ◌≤◌, count_by, take}
use Rattle.cascade.specs.Standings.{is_default}
use Rattle.clear_report.proofs.sums.defaults_of.Given as goal

abbrev pub invariant-loop-standing : goal.invariant-loop-standing
invariant-loop-standing g l = record {
  defaults_is :
      l.defaults ≡ count_by (λ s. is_default (g.S.Stands.state s)) (take l.standing-index l.all);
  in_limit : l.defaults ≤ l.standing-index;
}
