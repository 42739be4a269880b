use Rattle.std.proofs.Common.{◌≡◌, ◌-◌, ap, ◌∙◌, arith}
use Rattle.std.specs.Option.{option_map_or}
use Rattle.clr_net.specs.declared.bank.Bank.{Bank}
use Rattle.cascade.specs.Standings.{health_at, paid_by}
use Rattle.costs.specs.Costs.{kept}
use Rattle.costs.specs.CostStandings.{cost_equity, cost_outside_paid, kept_by, lost_by}
use Rattle.costs.proofs.Keeping.{kept_le}
use Rattle.costs.proofs.PayingOut.{cost_clearing_over, cost_clearing_in_limit, cost_paid_is}
use Rattle.costs.proofs.standings.standing_of.Goals as goal

pub estate_of-estate-requires-clause-over : goal.estate_of-estate-requires-clause-over
estate_of-estate-requires-clause-over c =
    cost_clearing_over c.args.net.now c.args.keep c.args.paid.now c.requires.clears

pub estate_of-estate-requires-clause-paid_in_limit : goal.estate_of-estate-requires-clause-paid_in_limit
estate_of-estate-requires-clause-paid_in_limit c =
    cost_clearing_in_limit c.args.net.now c.args.keep c.args.paid.now c.requires.network
    c.requires.clears

pub overflow_sub-result : goal.overflow_sub-result
overflow_sub-result c =
    let estate = c.estate_of-estate.result in
    let at_most = kept_le c.args.net.now c.args.keep c.args.bank.0 estate c.requires.keep in
    omega (arith, c.kept-kept.ensures, at_most)

pub returns : goal.returns
returns c =
    let net = c.args.net.now in
    let k = c.args.keep in
    let P = c.args.paid.now in
    let i = c.args.bank.0 in
    let owes = ap (λ o. option_map_or (λ (b : Bank). b.outside) o 0) c.bank-owner.ensures in
    let has = c.estate_of-estate.ensures.estate in
    let keeps : c.kept-kept.result ≡ kept_by net k P i =
    c.kept-kept.ensures ∙ ap (kept net k i) has in
    let pays = cost_paid_is net k P c.requires.network c.requires.keep c.requires.clears i in
    let lost : c.estate_of-estate.result - c.kept-kept.result ≡ lost_by net k P i = omega arith in
    let outside : c.min-outside_paid.result ≡ cost_outside_paid net k P i =
    omega (arith, c.min-outside_paid.ensures) in
    let paid : c.min-on_debts.result ≡ paid_by net P i =
    omega (arith, c.owed_by.ensures, c.min-on_debts.ensures) in
    let left : c.kept-kept.result - c.min-outside_paid.result - c.min-on_debts.result
    ≡ cost_equity net k P i = omega arith in
    let health = c.health_at.ensures ∙ ap (health_at net i) has in
    λ at. record {
      estate = has at;
      lost = lost at;
      outside_paid = outside at;
      paid = paid at;
      equity = left at;
      health = health at;
    }
