use Rattle.std.proofs.Common.{arith}
use Rattle.upper.proofs.Rows.{all_paid_for}
use Rattle.upper.proofs.round.take_over.Goals as goal

pub returns-clause-paid : goal.returns-clause-paid
returns-clause-paid c =
    all_paid_for c.args.net.now _ c.banks-bank-items.result.now c.args.next.now c.args.paid.now
    c.loop-bank.paid
    c.loop-bank.bank-index c.banks-bank-items.ensures (omega arith) (omega arith) c.requires.next
    c.requires.others
    c.loop-bank.invariant.taken
