use Rattle.stress.proofs.Milder.{milder_hurts_nobody}
use Rattle.stress.proofs.laws.milder_shock_hurts_nobody.Goals as goal

pub returns : goal.returns
returns c = milder_hurts_nobody
