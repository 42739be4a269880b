use Rattle.stress.proofs.Kept.{leaves_cash}
use Rattle.stress.proofs.laws.shock_leaves_cash.Goals as goal

pub returns : goal.returns
returns c = leaves_cash
