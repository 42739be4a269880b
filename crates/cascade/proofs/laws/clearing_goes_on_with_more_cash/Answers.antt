use Rattle.cascade.proofs.GoingOn.{goes_on}
use Rattle.cascade.proofs.laws.clearing_goes_on_with_more_cash.Goals as goal

pub returns : goal.returns
returns c = goes_on
