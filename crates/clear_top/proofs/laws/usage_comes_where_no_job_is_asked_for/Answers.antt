use Rattle.clear_top.proofs.Ending.{usage_by}
use Rattle.clear_top.proofs.laws.usage_comes_where_no_job_is_asked_for.Goals as goal

pub returns : goal.returns
returns c = λ shelf sink job e. usage_by shelf sink job e.status e.sealed
