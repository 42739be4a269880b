use Rattle.cascade.proofs.PayingOut.{adds_up}
use Rattle.cascade.proofs.laws.clearing_adds_up.Goals as goal

pub returns : goal.returns
returns c = adds_up
