use Rattle.std.proofs.Common.{◌≡◌, map}
use Rattle.std.specs.List.{range_with_len}
use Rattle.cascade.specs.Standings.{standing}
use Rattle.cascade.proofs.standings.defaults_by.Given as goal

abbrev pub invariant-loop-number : goal.invariant-loop-number
invariant-loop-number l = l.all.items ≡ map (standing l.net l.payments.paid) (range_with_len 0 l.number)
