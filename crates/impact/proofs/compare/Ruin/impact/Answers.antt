use Rattle.std.proofs.Common.{◌+◌, ◌≡◌, ◌<◌, length, ap, arith}
use Rattle.std.proofs.lemmas.List.Elements.{All-same}
use Rattle.cascade.proofs.CashAt.{cash_read}
use Rattle.impact.specs.declared.hurt.Hurt.{Hurt}
use Rattle.impact.specs.Impact.{hurt_by}
use Rattle.impact.proofs.Hurts.{hurt_are_banks}
use Rattle.impact.proofs.Others.{own_and_others_are_cash}
use Rattle.impact.specs.Impact.{lost_by_others}
use Rattle.impact.proofs.compare.Ruin.impact.Goals.{After-bank}
use Rattle.impact.proofs.compare.Ruin.impact.Goals as goal

-- what the ruined bank keeps less, and what all others do, is its cash
cash_is : (c : After-bank) → c.hurt_of-own.result.lost
    + lost_by_others c.args.self.now.net.now c.args.self.now.ruined.0 ≡ c.bank.result.now.cash
cash_is c =
    let own = ap (λ (h : Hurt). h.lost) c.hurt_of-own.ensures in
    let read = cash_read c.args.self.now.net.now c.args.self.now.ruined.0 c.bank.result.now c.bank.ensures in
    let cash = own_and_others_are_cash c.args.self.now.net.now _ c.banks.ensures.network c.args.self.now.known in
    omega arith

pub overflow_sub-result : goal.overflow_sub-result
overflow_sub-result c = omega (arith, cash_is (goal.at.overflow_sub-result c).After-bank)

pub returns-clause-impact : goal.returns-clause-impact
returns-clause-impact c =
    let net = c.args.self.now.net.now in
    let j = c.args.self.now.ruined.0 in
    record {
      own = ap (λ (h : Hurt). h.lost) c.hurt_of-own.ensures;
      others = omega (arith, cash_is (goal.at.returns-clause-impact c).After-bank);
      falls = c.fallen.ensures;
      hurts = c.in_ok-hurts.ensures;
      known = All-same (λ (h : Hurt). h.bank.0 < length net.banks) _ (hurt_by net j)
          c.in_ok-hurts.ensures (hurt_are_banks net j);
    }

pub returns-clause-cash : goal.returns-clause-cash
returns-clause-cash c =
    let read = cash_read c.args.self.now.net.now c.args.self.now.ruined.0 c.bank.result.now c.bank.ensures in
    omega (arith, cash_is (goal.at.returns-clause-cash c).After-bank)
