use Rattle.clear_top.proofs.Records.{recorded_by}
use Rattle.clear_top.proofs.laws.records_are_of_tasks_on_one_board.Goals as goal

pub returns : goal.returns
returns c = λ shelf sink job e. recorded_by shelf sink job e.status e.sealed
