use Rattle.std.proofs.Common.{sym, subst}
use Rattle.clr_net.specs.Limits.{IsNetwork}
use Rattle.bank_worker.proofs.Calling.{all_called}
use Rattle.run_tests.proofs.workers.round_called.Goals as goal

-- all banks are called, so those of the desks are
pub round_over-requires-clause-called : goal.round_over-requires-clause-called
round_over-requires-clause-called c =
    let w = c.args.worker.now in
    all_called w.seat.shows w.desks c.all-called.result (subst IsNetwork (sym c.requires.net) c.banks.ensures.network) c.desks.ensures.held c.all-called.ensures
