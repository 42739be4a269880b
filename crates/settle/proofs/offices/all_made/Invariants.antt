use Rattle.std.proofs.Common.{◌≡◌, ◌++◌, Ok, map}
use Rattle.std.specs.Vec.Iter.{into_iter_items}
use Rattle.settle.proofs.offices.all_made.Given as goal

-- the offices so far and what is still to come are all that was made
abbrev pub invariant-loop-one : goal.invariant-loop-one
invariant-loop-one l = map Ok l.offices.items ++ into_iter_items l.one-iterator ≡ l.fn.made.items
