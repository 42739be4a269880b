use Rattle.std.proofs.Common.{sym, subst}
use Rattle.clear_core.specs.Clearing.{spend, pay, rounds, IsOnWayBy}
use Rattle.clear_core.proofs.Pay.{spend_mono}
use Rattle.clear_least.proofs.plain.least_from.Goals as goal

pub least_by-requires-clause-never_falls : goal.least_by-requires-clause-never_falls
least_by-requires-clause-never_falls c = spend_mono c.args.net.now

pub least_by-requires-clause-way : goal.least_by-requires-clause-way
unfolding pay rounds
least_by-requires-clause-way c =
    subst (IsOnWayBy c.args.net.now (spend c.args.net.now)) (sym c.in_ok-paid.ensures) record {
      as_many = c.requires.over;
      rises = c.requires.rises;
      below = c.requires.below;
    }

pub returns-clause-payments : goal.returns-clause-payments
unfolding pay rounds
returns-clause-payments c = c.least_by.ensures.payments

pub returns-clause-least : goal.returns-clause-least
unfolding pay rounds
returns-clause-least c = c.least_by.ensures.least
