use Rattle.rescue.proofs.MoreCash.{goes_on_with_sum}
use Rattle.rescue.proofs.laws.least_payments_go_on_after_cash_is_added.Goals as goal

pub returns : goal.returns
returns c = λ net i a. let on = goes_on_with_sum net i a in (on.1, on.2)
