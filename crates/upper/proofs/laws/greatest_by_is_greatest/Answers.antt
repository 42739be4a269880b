use Rattle.upper.proofs.Tops.{greatest_by_is}
use Rattle.upper.proofs.laws.greatest_by_is_greatest.Goals as goal

pub returns : goal.returns
returns c = greatest_by_is
