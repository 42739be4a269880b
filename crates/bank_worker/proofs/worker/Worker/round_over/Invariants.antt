use Rattle.bank_worker.specs.Called.{AreCalledOrAtRest, CallsOthers, KeepsOthers}
use Rattle.bank_worker.proofs.Sweeping.{RoundTo}
use Rattle.bank_worker.proofs.worker.Worker.round_over.Given as goal

abbrev pub invariant-loop : goal.invariant-loop
invariant-loop g l = record {
  round : RoundTo l.fn.self l.self l.counter l.units;
  called : AreCalledOrAtRest l.called l.self.seat.shows l.self.desks;
  keeps_others : KeepsOthers l.fn.self.seat.shows l.fn.called l.called;
  rung : CallsOthers l.fn.self l.self l.called;
}
