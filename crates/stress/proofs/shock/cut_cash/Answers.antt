use Rattle.std.proofs.Common.{[], sym, ap, ◌∙◌, below_more, arith}
use Rattle.cascade.proofs.CashAt.{cash_is_set, cash_read, cash_stays}
use Rattle.stress.specs.Shocks.{after_cut}
use Rattle.cascade.proofs.OtherCash.{alike_set, as_many_alike}
use Rattle.stress.proofs.Kept.{is_shocked}
use Rattle.stress.proofs.shock.cut_cash.Goals as goal

pub after_cut-requires-clause-cash : goal.after_cut-requires-clause-cash
after_cut-requires-clause-cash c =
    let bank = c.banks-number-end.ensures.network.each_bank c.loop-number.number (omega arith) in
    omega (arith, cash_read c.args.net.now _ c.bank.result.now c.bank.ensures, bank.cash_in_limit)

pub set_cash-requires-clause-bank : goal.set_cash-requires-clause-bank
set_cash-requires-clause-bank c =
    omega (arith, as_many_alike c.args.net.now c.loop-number.left c.loop-number.invariant.alike)

pub set_cash-requires-clause-cash : goal.set_cash-requires-clause-cash
set_cash-requires-clause-cash c =
    let bank = c.banks-number-end.ensures.network.each_bank c.loop-number.number (omega arith) in
    let cash = cash_read c.args.net.now _ c.bank.result.now c.bank.ensures in
    omega (arith, c.after_cut.ensures.no_more, bank.cash_in_limit)

pub loop-number-preserved : goal.loop-number-preserved
loop-number-preserved c =
    let net = c.args.net.now in
    let n = c.loop-number.number in
    let left = c.loop-number.left in
    let old = c.loop-number.invariant in
    record {
      alike = rw c.set_cash.ensures (alike_set net left n c.after_cut.result old.alike);
      done = rw c.set_cash.ensures (below_more _ n
          (λ i l. cash_stays left n c.after_cut.result i (λ e. omega arith) ∙ old.done i l)
          (cash_is_set left n c.after_cut.result (omega (arith, as_many_alike net left old.alike))
          ∙ c.after_cut.ensures.left
          ∙ ap (after_cut c.args.cut) (sym (cash_read net n c.bank.result.now c.bank.ensures))));
    }

pub returns-clause-left : goal.returns-clause-left
returns-clause-left c =
    is_shocked c.args.net.now c.loop-number.left c.args.cut [] c.loop-number.invariant.alike
    (λ i l. omega (arith, c.loop-number.invariant.done i (omega arith)))
