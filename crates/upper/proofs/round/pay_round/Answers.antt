use Rattle.std.proofs.Common.{arith}
use Rattle.clear_core.specs.Clearing.{pay_by}
use Rattle.clear_core.proofs.Pay.{length-pay_by}
use Rattle.upper.proofs.Rows.{all_paid_for}
use Rattle.upper.proofs.round.pay_round.Goals as goal

pub returns-clause-next : goal.returns-clause-next
returns-clause-next g c =
    let net = c.args.net.now in
    let f = g.S.Spending.spends c.args.spending.now net in
    let paid = c.args.paid.now in
    all_paid_for net _ c.banks-bank-items.result.now (pay_by net f paid) c.args.next.now
    c.loop-bank.next c.loop-bank.bank-index
    c.banks-bank-items.ensures (omega arith) (omega arith) (length-pay_by net f paid)
    c.requires.current c.loop-bank.invariant.paid
