use Rattle.std.proofs.Common.{◌≡◌, ◌+◌, ◌-◌, min, sym, ap, ◌∙◌, arith}
use Rattle.std.specs.Option.{option_map_or}
use Rattle.clr_net.specs.Net.{outside_of}
use Rattle.clr_net.specs.declared.bank.Bank.{Bank}
use Rattle.clear_core.specs.Clearing.{estate, paid_by, receipts, spend}
use Rattle.cascade.specs.Standings.{equity, health_at, outside_paid, owed_by}
use Rattle.cascade.proofs.CashAt.{cash_read}
use Rattle.cascade.proofs.Healths.{health_told}
use Rattle.cascade.proofs.standings.standing_of.Goals as goal

pub returns : goal.returns
returns c = λ P received paid.
    let net = c.args.net.now in
    let i = c.args.bank.0 in
    let owner = c.bank-owner.result.now in
    let cash = cash_read net i owner c.bank-owner.ensures in
    let owes : outside_of net i ≡ owner.outside =
    ap (λ o. option_map_or (λ (b : Bank). b.outside) o 0) c.bank-owner.ensures in
    let has : owner.cash + c.args.sums.received ≡ estate net P i = omega arith in
    let outside : c.min-outside_paid.result ≡ outside_paid net P i = omega (arith, c.min-outside_paid.ensures) in
    let pays : paid_by net P i ≡ min (spend net i (receipts net P i)) (owed_by net i) =
    omega (arith, c.requires.pays) in
    let left : owner.cash + c.args.sums.received - c.min-outside_paid.result - c.args.sums.paid
    ≡ equity net P i = omega arith in
    let health = c.health_at.ensures ∙ ap (health_at net i) has ∙ sym (health_told net P i pays) in
    λ at. record {
      estate = has at;
      outside = sym owes at;
      outside_paid = outside at;
      paid = paid at;
      owed = c.owed_by-owed.ensures at;
      equity = left at;
      health = health at;
    }
