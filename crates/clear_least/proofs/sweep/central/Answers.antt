use Rattle.std.proofs.Common.{sym, subst}
use Rattle.clear_core.specs.Clearing.{IsLeast}
use Rattle.clear_core.proofs.Least.{least_rounds}
use Rattle.clear_least.proofs.sweep.central.Goals as goal

pub returns-clause-least : goal.returns-clause-least
returns-clause-least c =
    subst (IsLeast c.args.net.now) (sym c.in_ok-least_payments.ensures.payments)
    (least_rounds c.args.net.now)
