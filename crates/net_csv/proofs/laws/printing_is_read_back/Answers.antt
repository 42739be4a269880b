use Rattle.net_csv.proofs.ReadBack.{printed_is_read_back}
use Rattle.net_csv.proofs.laws.printing_is_read_back.Goals as goal

pub returns : goal.returns
returns c = printed_is_read_back
