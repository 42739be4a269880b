use Rattle.std.proofs.Common.{ap, ◌∙◌}
use Rattle.clear_core.specs.Clearing.{pay, spend}
use Rattle.clear_core.proofs.BankPays.{division_pays}
use Rattle.clear_core.proofs.scratch.Scratch.pay_row.Goals as goal

pub returns-clause-in_row : goal.returns-clause-in_row
unfolding pay
returns-clause-in_row c x l owed =
    let net = c.args.net.now in
    let i = c.args.bank.0 in
    c.divide_row.ensures.in_row x l owed
    ∙ division_pays net (spend net) c.args.paid.now i x _ l owed
    (c.spend.ensures ∙ ap (spend net i) c.receipts_of-receipts.ensures.receipts)
