use Rattle.std.proofs.Common.{◌≡◌, length}
use Rattle.net_check.specs.Field.{trimmed_start}
use Rattle.net_check.proofs.field.trimmed_start.Given as goal

abbrev pub invariant-loop-first : goal.invariant-loop-first
invariant-loop-first l = trimmed_start l.rest ≡ trimmed_start l.field

abbrev pub decreases-loop-first : goal.decreases-loop-first
decreases-loop-first l = length l.rest
