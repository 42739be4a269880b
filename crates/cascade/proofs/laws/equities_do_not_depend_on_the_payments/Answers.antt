use Rattle.cascade.proofs.Equities.{equities_are_one}
use Rattle.cascade.proofs.laws.equities_do_not_depend_on_the_payments.Goals as goal

pub returns : goal.returns
returns c = equities_are_one
