use Rattle.bank_worker.specs.Called.{AreCalledTo, StayIn}
use Rattle.bank_worker.proofs.worker.call_all.Given as goal

abbrev pub invariant-loop-raise : goal.invariant-loop-raise
invariant-loop-raise l = record {
  kept : StayIn l.fn.called l.called;
  creditors : AreCalledTo l.creditors l.called l.raises l.raise-index;
}
