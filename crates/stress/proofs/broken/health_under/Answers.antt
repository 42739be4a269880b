use Rattle.std.proofs.Common.{◌≡◌, ◌+◌, ap, ◌∙◌, arith}
use Rattle.std.proofs.lemmas.Bool.Decides.{nat_tests}
use Rattle.clear_core.specs.Clearing.{estate, receipts}
use Rattle.clear_core.specs.declared.payments.Sums.{Sums}
use Rattle.clear_core.proofs.Summing.{receipts_in_limit}
use Rattle.cascade.proofs.CashAt.{cash_read}
use Rattle.cascade.proofs.Limits.{clearing_in_limit, estate_le_worth}
use Rattle.cascade.proofs.PayingOut.{paid_is}
use Rattle.stress.proofs.broken.health_under.Goals as goal
use Rattle.stress.proofs.broken.health_under.Goals.{After-index}

-- what is kept of the bank is what it receives
received : (c : After-index)
    → c.index.result.now.received ≡ receipts c.args.net.now c.args.payments.now.paid c.args.bank.0
received c = ap (λ (s : Sums). s.received) c.index.ensures
    ∙ c.requires.sums.received c.args.bank.0 c.index.result.now c.requires.bank

-- and so what it has is its estate
is_estate : (c : After-index) → c.bank.result.now.cash + c.index.result.now.received
    ≡ estate c.args.net.now c.args.payments.now.paid c.args.bank.0
is_estate c = omega
    (arith, received c, cash_read c.args.net.now c.args.bank.0 c.bank.result.now c.bank.ensures)

pub overflow_add-estate : goal.overflow_add-estate
overflow_add-estate c =
    let net = c.args.net.now in
    let P = c.args.payments.now.paid in
    let i = c.args.bank.0 in
    let network = c.banks.ensures.network in
    let at = goal.at.overflow_add-estate c in
    omega (
      arith,
      received at.After-index,
      receipts_in_limit net P i network (clearing_in_limit net P network c.requires.clears),
      cash_read net i c.bank.result.now c.bank.ensures,
      (network.each_bank i c.requires.bank).cash_in_limit,
    )

pub returns-then-due-estate : goal.returns-then-due-estate
returns-then-due-estate c =
    let pays = paid_is c.args.net.now c.args.payments.now.paid c.banks.ensures.network c.requires.clears in
    let le = estate_le_worth c.args.net.now c.args.payments.now.paid c.requires.clears c.args.bank.0 in
    let has = is_estate (goal.at.returns-then-due-estate c).After-index in
    grind (arith, nat_tests, pays c.args.bank.0)

pub returns-then-worth-due : goal.returns-then-worth-due
returns-then-worth-due c =
    let pays = paid_is c.args.net.now c.args.payments.now.paid c.banks.ensures.network c.requires.clears in
    let le = estate_le_worth c.args.net.now c.args.payments.now.paid c.requires.clears c.args.bank.0 in
    let has = is_estate (goal.at.returns-then-worth-due c).After-index in
    grind (arith, nat_tests, pays c.args.bank.0)

pub returns-else-worth-due : goal.returns-else-worth-due
returns-else-worth-due c =
    let pays = paid_is c.args.net.now c.args.payments.now.paid c.banks.ensures.network c.requires.clears in
    let le = estate_le_worth c.args.net.now c.args.payments.now.paid c.requires.clears c.args.bank.0 in
    let has = is_estate (goal.at.returns-else-worth-due c).After-index in
    grind (arith, nat_tests, pays c.args.bank.0)
