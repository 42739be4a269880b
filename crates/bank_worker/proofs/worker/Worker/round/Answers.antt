use Rattle.std.proofs.Common.{subst}
use Rattle.bank_worker.specs.Called.{AreCalledOrAtRest}
use Rattle.bank_worker.specs.Views.{WorkerView}
use Rattle.bank_worker.proofs.Calling.{all_called}
use Rattle.bank_worker.proofs.worker.Worker.round.Goals as goal

pub round_over-requires-clause-called : goal.round_over-requires-clause-called
round_over-requires-clause-called g c =
    let a = c.self.inside in
    let office = c.self.invariant.office in
    subst (λ (w : WorkerView). AreCalledOrAtRest c.all.result w.seat.shows w.desks) c.self.view_is
    (all_called a.seat.shows a.office.desks c.all.result office.network office.desks c.all.ensures)
