use Rattle.std.proofs.Common.{◌<◌, ◌≤◌, ◌-◌}
use Rattle.cascade.specs.MoreCash.{IsOfOtherCash}
use Rattle.descent.specs.Halves.{HasEnough}
use Rattle.descent.proofs.laying.widest.Given as goal

-- the share so far has enough
abbrev pub invariant-loop-high : goal.invariant-loop-high
invariant-loop-high g l = record {
  alike : IsOfOtherCash l.net l.laid;
  some : l.number < l.high;
  share : l.high ≤ l.all;
  enough : HasEnough l.net (g.F.Floors.floors l.floors l.net) l.number l.high;
}

abbrev pub decreases-loop-high : goal.decreases-loop-high
decreases-loop-high g l = l.all - l.high
