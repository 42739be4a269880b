use Rattle.clear_top.proofs.Ending.{untouched_by}
use Rattle.clear_top.proofs.laws.nothing_else_is_written.Goals as goal

pub returns : goal.returns
returns c = λ shelf sink job e. untouched_by shelf sink job e.status e.sealed
