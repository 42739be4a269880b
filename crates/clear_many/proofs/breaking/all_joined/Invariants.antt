use Rattle.std.proofs.Common.{◌≡◌, map}
use Rattle.cascade.specs.Standings.{bank_numbers}
use Rattle.stress.specs.Breaking.{breaking_within}
use Rattle.clear_many.specs.Blocks.{edge}
use Rattle.clear_many.proofs.breaking.all_joined.Given as goal

-- the blocks so far are put together
abbrev pub invariant-loop-block : goal.invariant-loop-block
invariant-loop-block l = l.all.items ≡ map (breaking_within 0 (edge l.block) l.net) (bank_numbers l.net)
