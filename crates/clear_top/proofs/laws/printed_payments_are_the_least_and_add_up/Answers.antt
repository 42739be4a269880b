use Rattle.clear_top.proofs.Printed.{prints_least}
use Rattle.clear_top.proofs.laws.printed_payments_are_the_least_and_add_up.Goals as goal

pub returns : goal.returns
returns c = prints_least
