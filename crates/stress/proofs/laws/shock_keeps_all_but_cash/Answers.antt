use Rattle.stress.proofs.Kept.{keeps_all_but_cash}
use Rattle.stress.proofs.laws.shock_keeps_all_but_cash.Goals as goal

pub returns : goal.returns
returns c = keeps_all_but_cash
