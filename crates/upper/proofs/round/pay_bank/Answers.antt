use Rattle.std.proofs.Common.{ap, ◌∙◌}
use Rattle.clear_core.proofs.BankPays.{division_pays}
use Rattle.upper.proofs.round.pay_bank.Goals as goal

pub returns-clause-in_row : goal.returns-clause-in_row
returns-clause-in_row g c x l owed =
    let net = c.args.net.now in
    let i = c.args.bank.0 in
    let f = g.S.Spending.spends c.args.spending.now net in
    c.divide_row.ensures.in_row x l owed
    ∙ division_pays net f c.args.paid.now i x _ l owed
    (c.spend.ensures ∙ ap (f i) c.receipts_of-receipts.ensures.receipts)
