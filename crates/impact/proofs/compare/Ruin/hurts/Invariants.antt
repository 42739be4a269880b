use Rattle.std.proofs.Common.{◌≡◌, map, filter}
use Rattle.std.specs.List.{range_with_len}
use Rattle.impact.specs.Impact.{hurt_to, is_hurt}
use Rattle.impact.proofs.compare.Ruin.hurts.Given as goal

abbrev pub invariant-loop-number : goal.invariant-loop-number
invariant-loop-number l = l.all.items
    ≡ filter is_hurt (map (hurt_to l.self.net.now l.self.ruined.0) (range_with_len 0 l.number))
