use Rattle.upper.proofs.Tops.{greatest_by_mono}
use Rattle.upper.proofs.laws.less_divided_pays_no_more.Goals as goal

pub returns : goal.returns
returns c = greatest_by_mono
