use Rattle.std.proofs.Common.{◌≡◌, ◌≤◌, take}
use Rattle.clr_net.specs.Net.{all_cash}
use Rattle.stress.proofs.Outcomes.{sums_over}
use Rattle.stress.proofs.sums.outcome_of.Given as goal

abbrev pub invariant-loop-standing : goal.invariant-loop-standing
invariant-loop-standing l = record {
  so_far : l.all ≡ sums_over (all_cash l.net) (take l.standing-index l.standings);
  in_limit : l.all.defaults ≤ l.standing-index;
  fewer : l.all.fundamental ≤ l.standing-index;
}
