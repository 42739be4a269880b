use Rattle.std.proofs.Common.{rules}
use Rattle.clear_core.proofs.Pay.{pay_at}
use Rattle.clear_core.proofs.allowed.allowed_of.Goals as goal

pub returns-clause-pays : goal.returns-clause-pays
returns-clause-pays c = rw (pay_at c.args.net.now c.args.seen.now c.args.debt.0 c.requires.debt) (search rules)
