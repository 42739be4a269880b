use Rattle.std.proofs.Common.{length, ap, ◌∙◌, sym, subst, arith}
use Rattle.std.proofs.lemmas.List.{take_all}
use Rattle.cascade.specs.MoreCash.{IsOfOtherCash}
use Rattle.stress.specs.Shocks.{after_shock}
use Rattle.stress.specs.declared.scenario.Loss.{Loss}
use Rattle.stress.proofs.Kept.{alike_after}
use Rattle.stress.proofs.Taken.{in_limit, next_there, one_loss_taken}
use Rattle.stress.proofs.shock.shock_again.Goals as goal

-- what stands for a loss past the end
abbrev none : Loss
none = record { bank = record { 0 = 0 }; amount = 0 }

pub bank-requires : goal.bank-requires
bank-requires c =
    next_there c.args.net.now _ c.args.scenario.now.cut _ _ _ none c.loop-loss.invariant.so_far
    c.as_slice-loss-items.ensures c.loop-loss-test.true c.requires.scenario.of_known_banks

pub set_cash-requires-clause-bank : goal.set_cash-requires-clause-bank
set_cash-requires-clause-bank c =
    next_there c.args.net.now _ c.args.scenario.now.cut _ _ _ none c.loop-loss.invariant.so_far
    c.as_slice-loss-items.ensures c.loop-loss-test.true c.requires.scenario.of_known_banks

pub set_cash-requires-clause-cash : goal.set_cash-requires-clause-cash
set_cash-requires-clause-cash c =
    let limit = in_limit c.args.net.now c.loop-loss.left c.args.scenario.now.cut
    c.loop-loss.loss-index c.args.scenario.now.losses c.as_slice-loss-items.result.now none
    c.loop-loss.invariant.so_far c.as_slice-loss-items.ensures c.loop-loss-test.true
    c.requires.scenario.of_known_banks c.bank.result.now c.bank.ensures c.cut_cash.ensures.network in
    omega arith

pub loop-loss-preserved : goal.loop-loss-preserved
loop-loss-preserved c = record {
  so_far = c.set_cash.ensures
      ∙ one_loss_taken c.args.net.now c.loop-loss.left c.args.scenario.now.cut
      c.loop-loss.loss-index c.args.scenario.now.losses c.as_slice-loss-items.result.now none
      c.loop-loss.invariant.so_far c.as_slice-loss-items.ensures c.loop-loss-test.true
      c.requires.scenario.of_known_banks c.bank.result.now c.bank.ensures c.after_loss.result
      c.requires.scenario.of_different_banks c.after_loss.ensures;
}

pub returns-clause-alike : goal.returns-clause-alike
returns-clause-alike c =
    let net = c.args.net.now in
    let s = c.args.scenario.now in
    let all = take_all c.loop-loss.loss-index s.losses
    (omega (arith, ap length c.as_slice-loss-items.ensures)) in
    subst (IsOfOtherCash net)
    (sym (c.loop-loss.invariant.so_far ∙ ap (λ ls. after_shock s.cut ls net) all))
    (alike_after net s.cut s.losses)
