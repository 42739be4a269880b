use Rattle.net_csv.proofs.ReadBack.{converted_is_read_back}
use Rattle.net_csv.proofs.laws.conversion_is_read_back.Goals as goal

pub returns : goal.returns
returns c = converted_is_read_back
