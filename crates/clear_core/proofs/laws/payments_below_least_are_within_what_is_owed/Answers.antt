use Rattle.clear_core.proofs.Within.{sum_low}
use Rattle.clear_core.proofs.laws.payments_below_least_are_within_what_is_owed.Goals as goal

pub returns : goal.returns
returns c = sum_low
