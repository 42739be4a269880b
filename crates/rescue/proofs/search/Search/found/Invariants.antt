use Rattle.std.proofs.Common.{◌-◌}
use Rattle.rescue.specs.Searching.{IsRangeOf, IsSearchAt}
use Rattle.rescue.proofs.search.Search.found.Given as goal

abbrev pub invariant-loop-range : goal.invariant-loop-range
invariant-loop-range l = record {
  range : IsRangeOf l.net l.bank.0 l.range;
  search : IsSearchAt l.net l.bank.0 l.self;
}

abbrev pub decreases-loop-range : goal.decreases-loop-range
decreases-loop-range l = l.range.high - l.range.low
