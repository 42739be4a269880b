use Rattle.upper.proofs.Tops.{greatest_rounds}
use Rattle.upper.proofs.laws.greatest_is_greatest.Goals as goal

pub returns : goal.returns
returns c = greatest_rounds
