use Rattle.descent.proofs.GoingOn.{goes_on_for_part}
use Rattle.descent.proofs.laws.clearing_goes_on_for_a_part.Goals as goal

pub returns : goal.returns
returns c = goes_on_for_part
