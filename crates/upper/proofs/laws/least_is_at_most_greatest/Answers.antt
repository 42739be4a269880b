use Rattle.upper.proofs.Tops.{least_le_greatest}
use Rattle.upper.proofs.laws.least_is_at_most_greatest.Goals as goal

pub returns : goal.returns
returns c = least_le_greatest
