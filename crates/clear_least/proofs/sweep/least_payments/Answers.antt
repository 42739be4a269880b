use Rattle.clear_core.specs.Clearing.{pay, rounds}
use Rattle.clear_least.proofs.sweep.least_payments.Goals as goal

pub returns-clause-payments : goal.returns-clause-payments
unfolding pay rounds
returns-clause-payments c = c.paid_up.ensures.payments
