use Rattle.std.proofs.Common.{◌≡◌, ◌++◌, List, length, []}
use Rattle.std.specs.Vec.Iter.{into_iter_items}
use Rattle.clear_core.specs.History.{Kept}
use Rattle.raise_journal.specs.Gathered.{HasGrownBy, raises_of_all}
use Rattle.settle.proofs.noting.add_waiting.Given as goal

-- the journal has grown by the raises of the parts so far
abbrev pub invariant-loop-made : goal.invariant-loop-made
invariant-loop-made l = record {
  so_far : (done : List Kept) × (done ++ into_iter_items l.made-iterator ≡ l.fn.waiting.items)
      × HasGrownBy l.fn.journal.raises l.journal.raises (raises_of_all done);
  place : l.from ≡ length l.fn.journal.raises;
  none : l.waiting.items ≡ [];
}
