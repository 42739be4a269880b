use Rattle.descent.specs.Halves.{IsDescentBy}
use Rattle.descent.proofs.halves.Descent.nearest.Given as goal

abbrev pub invariant-loop-step : goal.invariant-loop-step
invariant-loop-step g l =
    IsDescentBy g.F.Floors.size g.F.Floors.floors l.net l.floors l.self

abbrev pub decreases-loop-step : goal.decreases-loop-step
decreases-loop-step g l = goal.left-loop-step g l
