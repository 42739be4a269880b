use Rattle.settle.proofs.InTurn.{TurnTo}
use Rattle.settle.proofs.work.work_in_turn.Given as goal

abbrev pub invariant-loop-worker : goal.invariant-loop-worker
invariant-loop-worker g l = TurnTo l.run.engine.now.plan.sweeps l.units l.initial.workers l.workers l.worker-index l.called
