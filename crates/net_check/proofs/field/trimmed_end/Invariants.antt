use Rattle.std.proofs.Common.{◌≡◌, length, reverse}
use Rattle.net_check.specs.Field.{trimmed_start}
use Rattle.net_check.proofs.field.trimmed_end.Given as goal

abbrev pub invariant-loop-last : goal.invariant-loop-last
invariant-loop-last l = reverse (trimmed_start (reverse l.rest)) ≡ reverse (trimmed_start (reverse l.field))

abbrev pub decreases-loop-last : goal.decreases-loop-last
decreases-loop-last l = length l.rest
