use Rattle.cascade.proofs.MoreCash.{nobody_loses_by_cash}
use Rattle.cascade.proofs.laws.more_cash_hurts_nobody.Goals as goal

pub returns : goal.returns
returns c = nobody_loses_by_cash
