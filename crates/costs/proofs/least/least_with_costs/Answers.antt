use Rattle.std.proofs.Common.{replicate, ap, ◌∙◌}
use Rattle.std.proofs.lemmas.Result.{IfOk-weaker}
use Rattle.clear_core.proofs.Least.{begins_by}
use Rattle.costs.specs.Costs.{cost_spend}
use Rattle.costs.proofs.CostPay.{cost_spend_never_falls}
use Rattle.costs.proofs.CostLeast.{no_more_than_least}
use Rattle.costs.proofs.least.least_with_costs.Goals as goal

pub least_by-requires-clause-never_falls : goal.least_by-requires-clause-never_falls
least_by-requires-clause-never_falls c =
    cost_spend_never_falls c.args.net.now c.args.keep c.requires

pub least_by-requires-clause-way : goal.least_by-requires-clause-way
least_by-requires-clause-way c =
    let net = c.args.net.now in begins_by net (cost_spend net c.args.keep) _
    (c.in_ok-none.ensures ∙ ap (λ n. replicate n 0) c.debts.ensures.debts)

pub returns-clause-at_most : goal.returns-clause-at_most
returns-clause-at_most c =
    IfOk-weaker c.least_by.result _ _
    (λ paid. no_more_than_least c.args.net.now c.args.keep paid c.requires)
    c.least_by.ensures.payments
