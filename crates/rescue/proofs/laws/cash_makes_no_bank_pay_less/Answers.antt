use Rattle.rescue.proofs.MoreCash.{richer_by_some}
use Rattle.rescue.proofs.laws.cash_makes_no_bank_pay_less.Goals as goal

pub returns : goal.returns
returns c = richer_by_some
