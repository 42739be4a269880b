use Rattle.std.proofs.Common.{ap, sym, ◌∙◌, set}
use Rattle.std.proofs.lemmas.List.Edits.{map_over_more}
use Rattle.bank_desk.specs.Desks.{BankView, with_cash_in}
use Rattle.clr_net.specs.Net.{cash_of as cash_in}
use Rattle.bank_worker.proofs.desks.set_cash_of.Goals as goal

pub loop-desk-preserved : goal.loop-desk-preserved
loop-desk-preserved c =
    let net = c.args.net.now in
    let i = c.loop-desk.desk-index in
    let x = c.desk-item.result in
    let here = sym c.desk-item.is in
    let cash = c.cash_of.ensures.cash ∙ ap (cash_in net) (c.bank.ensures.bank ∙ ap (λ (d : BankView). d.bank) here) in
    ap (set c.loop-desk.desks i) (c.set_cash.ensures ∙ ap (λ (d : BankView). record d { cash = c.cash_of.result }) here ∙ ap (λ n. record x { cash = n }) cash)
    ∙ map_over_more (with_cash_in net) c.args.desks.now c.loop-desk.desks i x c.loop-desk-test.true c.loop-desk.invariant c.desk-item.is
