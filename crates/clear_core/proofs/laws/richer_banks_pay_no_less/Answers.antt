use Rattle.clear_core.proofs.Richer.{least_le_richer}
use Rattle.clear_core.proofs.laws.richer_banks_pay_no_less.Goals as goal

pub returns : goal.returns
returns c = least_le_richer
