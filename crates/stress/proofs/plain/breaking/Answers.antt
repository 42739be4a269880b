use Rattle.stress.proofs.Descent.{told_by_all}
use Rattle.stress.proofs.plain.breaking.Goals as goal

pub returns : goal.returns
returns c = told_by_all c.args.net.now c.breaking_within.result c.breaking_within.ensures
