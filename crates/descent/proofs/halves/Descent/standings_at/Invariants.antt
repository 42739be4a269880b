use Rattle.std.proofs.Common.{◌≡◌, ◌+◌, ◌<◌, ◌≤◌, ◌-◌}
use Rattle.descent.specs.Cashes.{with_cashes}
use Rattle.descent.specs.Halves.{IsDescentBy, IsStepBy}
use Rattle.descent.proofs.halves.Descent.standings_at.Given as goal

abbrev pub invariant-loop-step : goal.invariant-loop-step
invariant-loop-step g l = record {
  descent : IsDescentBy g.F.Floors.size g.F.Floors.floors l.net l.floors l.self;
  step : IsStepBy g.F.Floors.size g.F.Floors.floors l.net l.floors l.step;
  low : l.step.share.low ≤ l.number;
  high : l.number < l.step.share.high;
  laid : l.step.share.high ≤ l.step.share.low + 1
      → l.self.laid ≡ with_cashes l.net (g.F.Floors.floors l.floors l.net l.step.share.low l.step.share.high);
}

abbrev pub decreases-loop-step : goal.decreases-loop-step
decreases-loop-step g l = l.step.share.high - l.step.share.low
