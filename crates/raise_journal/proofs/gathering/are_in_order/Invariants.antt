use Rattle.raise_journal.proofs.Merged.{AreInTurnTo}
use Rattle.raise_journal.proofs.gathering.are_in_order.Given as goal

abbrev pub invariant-loop-place : goal.invariant-loop-place
invariant-loop-place l = AreInTurnTo l.raises l.place
