use Rattle.clear_top.specs.Ending.{JobEnds}
use Rattle.clear_top.specs.declared.status.Status.TheVariants as status
use Rattle.clear_top.proofs.Ending.{refuses}
use Rattle.clear_top.proofs.laws.the_first_fault_is_refused.Goals as goal

pub returns : goal.returns
returns c = λ shelf sink job e f ends told tells. (
  λ is. let here : JobEnds shelf sink job (status.Refused f) e.sealed = rw is at ends in
      here.0 told tells,
  refuses shelf sink job e.status e.sealed f ends told tells,
)
