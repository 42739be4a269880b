use Rattle.std.proofs.Common.{sym, subst, arith}
use Rattle.std.proofs.lemmas.Grind.{common_steps}
use Rattle.clear_core.specs.Clearing.{IsLeastBy}
use Rattle.clear_core.proofs.Least.{least_by_is}
use Rattle.clear_least.proofs.Way.{way_in_limit}
use Rattle.clear_least.proofs.sweep.least_by.Goals as goal

pub returns-clause-payments : goal.returns-clause-payments
returns-clause-payments g c = grind (arith, common_steps)

pub returns-clause-least : goal.returns-clause-least
returns-clause-least g c =
    let net = c.args.net.now in
    let f = g.S.Spending.spends c.args.spending.now net in
    subst (IsLeastBy net f) (sym (returns-clause-payments g c))
    (least_by_is net f c.requires.never_falls)

pub of-requires-clause-paid_in_limit : goal.of-requires-clause-paid_in_limit
of-requires-clause-paid_in_limit g c =
    let net = c.args.net.now in
    way_in_limit net (g.S.Spending.spends c.args.spending.now net) c.args.paid c.requires.way c.debts.ensures.network
