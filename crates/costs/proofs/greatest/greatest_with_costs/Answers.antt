use Rattle.std.proofs.lemmas.Result.{IfOk-weaker}
use Rattle.costs.proofs.CostPay.{cost_spend_never_falls}
use Rattle.costs.proofs.CostGreatest.{no_more_than_greatest}
use Rattle.costs.proofs.greatest.greatest_with_costs.Goals as goal

pub greatest_by-requires : goal.greatest_by-requires
greatest_by-requires c = record {
  never_falls = cost_spend_never_falls c.args.net.now c.args.keep c.requires;
}

pub returns-clause-at_most : goal.returns-clause-at_most
returns-clause-at_most c =
    IfOk-weaker c.greatest_by.result _ _
    (λ paid. no_more_than_greatest c.args.net.now c.args.keep paid c.requires)
    c.greatest_by.ensures.payments
