use Rattle.std.proofs.Common.{◌≡◌, map}
use Rattle.std.specs.List.{range_with_len}
use Rattle.costs.specs.CostStandings.{cost_standing}
use Rattle.costs.proofs.standings.cost_standings.Given as goal

abbrev pub invariant-loop-number : goal.invariant-loop-number
invariant-loop-number l =
    l.all.items ≡ map (cost_standing l.net l.keep l.paid) (range_with_len 0 l.number)
