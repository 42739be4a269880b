use Rattle.clear_top.proofs.Ending.{accepted_by}
use Rattle.clear_top.proofs.laws.what_an_accepted_job_comes_to_is_written.Goals as goal

pub returns : goal.returns
returns c = λ shelf sink job e. accepted_by shelf sink job e.status e.sealed
