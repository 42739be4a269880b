use Rattle.rescue.proofs.MoreCash.{belongs_added}
use Rattle.rescue.proofs.laws.finished_run_goes_on_after_cash_is_added.Goals as goal

pub returns : goal.returns
returns c = λ net start past i a belongs. belongs_added net i a start past belongs
