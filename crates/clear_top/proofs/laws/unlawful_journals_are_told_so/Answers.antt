use Rattle.clear_top.proofs.Records.{unlawful_by}
use Rattle.clear_top.proofs.laws.unlawful_journals_are_told_so.Goals as goal

pub returns : goal.returns
returns c = λ shelf sink job e. unlawful_by shelf sink job e.status e.sealed
