use Rattle.std.proofs.Common.{sym, subst}
use Rattle.settle.specs.Runs.{CanGoOn}
use Rattle.run_tests.proofs.runs.resumed.Goals as goal

-- a run may go on from the raises of one on the same network
pub settle_from-requires-clause-past : goal.settle_from-requires-clause-past
settle_from-requires-clause-past g c κs within =
    subst (λ rs. CanGoOn c.args.net.now rs) (sym c.journal.ensures) c.in_ok-before.ensures.settled.can_go_on
