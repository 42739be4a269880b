use Rattle.clear_top.proofs.Ending.{written_by}
use Rattle.clear_top.proofs.laws.what_is_written_is_what_the_job_comes_to.Goals as goal

pub returns : goal.returns
returns c = λ shelf sink job e. written_by shelf sink job e.status e.sealed
