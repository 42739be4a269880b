use Rattle.std.proofs.Common.{◌≡◌, map}
use Rattle.std.specs.List.{range_with_len}
use Rattle.clear_core.proofs.Summing.{sums_of}
use Rattle.clear_core.proofs.payments.Payments.of.Given as goal

abbrev pub invariant-loop-number : goal.invariant-loop-number
invariant-loop-number l = l.sums.items ≡ map (sums_of l.net l.fn.paid) (range_with_len 0 l.number)
