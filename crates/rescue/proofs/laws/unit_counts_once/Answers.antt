use Rattle.rescue.proofs.OneUnit.{counts_once}
use Rattle.rescue.proofs.laws.unit_counts_once.Goals as goal

pub returns : goal.returns
returns c = counts_once
